-- Places of elements in two lists one after the other.
use Rattle.std.proofs.Common.{◌≡◌, ℕ, suc, ◌+◌, List, [], ◌∷◌, ◌++◌, length, subst, arith, Some}
use Rattle.std.specs.Prelude.{slice_get}

pub get_right : {X : Type 0} (xs ys : List X) (i : ℕ) (x : X) → slice_get ys i ≡ Some x → slice_get (xs ++ ys) (length xs + i) ≡ Some x
get_right [] ys i x e = let a : i ≡ 0 + i = omega arith in subst (λ (n : ℕ). slice_get ys n ≡ Some x) a e
get_right (y ∷ xs) ys i x e = let a : suc (length xs + i) ≡ suc (length xs) + i = omega arith in subst (λ (n : ℕ). slice_get (y ∷ (xs ++ ys)) n ≡ Some x) a (get_right xs ys i x e)
