-- The greatest common divisor of a list.
use Rattle.std.proofs.Common.{ℕ, ◌+◌, ◌<◌, ℤ, pos, List, [], ◌∷◌, ◌++◌, length, get_or, take, subst}
use Rattle.std.specs.List.{All}
use Rattle.std.specs.Int.{IsGcd}
use Rattle.std.specs.Int.RustNames.{unsigned_abs}
use Rattle.std.proofs.Math.Nat.{dvd-zero, dvd_trans}
use Prim.Native.Nat.{◌∣◌}
use Rattle.std.proofs.lemmas.List.Elements.{All-more, All-weaker, All-nil, All-from_recursion, recursion_from_All}
use Rattle.std.proofs.lemmas.List.{take_more}
use Rattle.av_affine.specs.Numbers.{IsGcdOf}
use Rattle.av_base.proofs.Lists.{each_first, each_second}

pub gcd_none : IsGcdOf [] 0
gcd_none = record { divides = All-nil (λ x. 0 ∣ unsigned_abs x); greatest = λ d h. dvd-zero d }

-- what holds of one more holds of those before it, and of it
pub all_before : (P : ℤ → Type 0) (xs : List ℤ) (i : ℕ) → i < length xs → All P (take (i + 1) xs) → All P (take i xs) × P (get_or xs i (pos 0))
all_before P xs i l h =
    let k = recursion_from_All P (take i xs ++ get_or xs i (pos 0) ∷ []) (subst (All P) (take_more xs i (pos 0) l) h) in
    (All-from_recursion P (take i xs) (each_first P (take i xs) (get_or xs i (pos 0) ∷ []) k), (each_second P (take i xs) (get_or xs i (pos 0) ∷ []) k).0)

pub gcd_more : (xs : List ℤ) (i g h : ℕ) → i < length xs → IsGcdOf (take i xs) g → IsGcd g (unsigned_abs (get_or xs i (pos 0))) h → IsGcdOf (take (i + 1) xs) h
gcd_more xs i g h l s n = record {
  divides = All-more (λ x. h ∣ unsigned_abs x) xs i (pos 0) l (All-weaker (λ x. g ∣ unsigned_abs x) (λ x. h ∣ unsigned_abs x) (λ x k. dvd_trans h n.0 k) (take i xs) s.divides) n.1;
  greatest = λ d k. let b = all_before (λ x. d ∣ unsigned_abs x) xs i l k in n.2 d (s.greatest d b.0) b.1;
}
