-- Elements of lists by their places.
use Rattle.std.proofs.Common.{◌≡◌, ℕ, zero, suc, ◌<◌, List, [], ◌∷◌, length, subst, arith, Some}
use Rattle.std.specs.Prelude.{All, slice_get}
use Rattle.std.specs.List.{AllByRecursion}
use Rattle.std.proofs.lemmas.List.Elements.{All-contains}
use Rattle.av_base.proofs.Among.{among_at}
use Rattle.av_base.proofs.Lists.{some_is}

-- at one place
pub each_at : {X : Type 0} (P : X → Type 0) (xs : List X) → AllByRecursion P xs → (k : ℕ) (x : X) → slice_get xs k ≡ Some x → P x
each_at P [] h k x is = absurd cc
each_at P (y ∷ xs) h zero x is = subst P (some_is y x is) h.0
each_at P (y ∷ xs) h (suc k) x is = each_at P xs h.1 k x is

pub in_range : {X : Type 0} (xs : List X) (k : ℕ) (x : X) → slice_get xs k ≡ Some x → k < length xs
in_range [] k x is = absurd cc
in_range (y ∷ xs) zero x is = omega arith
in_range (y ∷ xs) (suc k) x is = omega (arith, in_range xs k x is)

pub at_index : {X : Type 0} (P : X → Type 0) (xs : List X) → All P xs → (k : ℕ) (x : X) → slice_get xs k ≡ Some x → P x
at_index P xs all k x is = All-contains P xs x all (among_at xs k x is)
