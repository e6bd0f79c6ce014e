-- Names compared by their bytes, and lists without repetition.
use Rattle.std.proofs.Common.{◌≡◌, ◌≢◌, suc, Bool, true, false, List, ◌∷◌, refl, sym, arith, All, AllPairs}
use Rattle.std.specs.Prelude.{bytes_eq}
use Rattle.std.proofs.lemmas.Slice.Eq.{bytes_eq-Decides}
use Rattle.av_tree.specs.Trees.{Text}

pub equal_names : (a b : Text) → bytes_eq a b ≡ true → a ≡ b
equal_names a b h = (bytes_eq-Decides a b).0 h

pub same_names : (a b : Text) → a ≡ b → bytes_eq a b ≡ true
same_names a b h = (bytes_eq-Decides a b).1 h

-- a test that cannot be true is false
pub is_false : (t : Bool) → (t ≡ true → ⊥) → t ≡ false
is_false true h = absurd (h refl)
is_false false h = refl

pub other_names : (a b : Text) → a ≢ b → bytes_eq a b ≡ false
other_names a b h = is_false (bytes_eq a b) (λ e. h (equal_names a b e))

pub apart_names : (a b : Text) → bytes_eq a b ≡ false → a ≢ b
apart_names a b h e = absurd (let k = same_names a b e in cc)

pub turned_false : (a b : Text) → bytes_eq a b ≡ false → bytes_eq b a ≡ false
turned_false a b h = other_names b a (λ e. apart_names a b h (sym e))

pub turned_true : (a b : Text) → bytes_eq a b ≡ true → bytes_eq b a ≡ true
turned_true a b h = same_names b a (sym (equal_names a b h))

-- ---- pairs of a list

pub first_pairs : {X : Type 0} (R : X → X → Type 0) (x : X) (xs : List X) → AllPairs R (x ∷ xs) → All (R x) xs
first_pairs R x xs p k d h = p 0 (suc k) d (omega arith) (omega (arith, h))
