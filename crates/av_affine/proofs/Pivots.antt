-- The pivot of a primitive vector with small entries.
use Rattle.std.proofs.Common.{◌≡◌, ◌≢◌, ℕ, zero, suc, ◌-◌, ◌<◌, ◌≤◌, arith, Bool, List, [], ◌∷◌, length, refl, subst, sym, ap, ◌⊎◌, inl, inr, ℤ, pos, nat_eq}
use Rattle.std.specs.Bool.{Decides}
use Rattle.std.specs.List.{Contains, IsAnyAnswer}
use Prim.Native.Nat.{◌∣◌}
use Rattle.std.proofs.Math.Nat.{dvd-zero}
use Rattle.std.proofs.lemmas.Nat.Gcd.{dvd_refl, le_of_dvd, dvd_of_mod-eq-zero}
use Rattle.av_affine.specs.Numbers.{AtMost, IsGcdOf}
use Rattle.av_affine.specs.Completion.{entry, IsLastOf, HasNone}
use Rattle.std.specs.Int.RustNames.{unsigned_abs}
use Rattle.std.proofs.lemmas.Bool.Decides.{Decides-eqb, eqb_tells}
use Rattle.std.proofs.lemmas.List.Elements.{contains_decides, Decides-contains, All-from_get_or}

pub contains_answer : (sizes : List ℕ) (x : ℕ) (r : Bool) → IsAnyAnswer (λ y t. nat_eq y x ≡ t) sizes r → Decides r (Contains sizes x)
contains_answer sizes x r h = Decides-contains sizes x r (contains_decides nat_eq Decides-eqb sizes x r h)

-- what holds from k on, and of the number before it, holds from that number on
pub one_below : (P : ℕ → Type 0) (k n : ℕ) → ((j : ℕ) → k ≤ j → j < n → P j) → P (k - 1) → (j : ℕ) → k - 1 ≤ j → j < n → P j
one_below P k n h here j l m = elim (eqb_tells (k - 1) j) [ inl w ↦ subst P w.1 here | inr w ↦ h j (omega (arith, w.1)) m ]

-- ---- the entries of a primitive vector

contains_first : (n m : ℕ) (rest : List ℕ) → n ≡ m → Contains (m ∷ rest) n
contains_first n m rest e = (0, omega arith, sym e)

contains_second : (n k m : ℕ) → n ≡ m → Contains (k ∷ m ∷ []) n
contains_second n k m e = (1, omega arith, sym e)

-- what divides each entry of a primitive vector is 1
common : (v : List ℤ) (d : ℕ) → IsGcdOf v 1 → ((k : ℕ) → k < length v → d ∣ unsigned_abs (entry v k)) → d ≤ 1
common v d primitive h = le_of_dvd (omega arith) (primitive.greatest d (All-from_get_or (λ x. d ∣ unsigned_abs x) v (pos 0) h))

even : (n : ℕ) → n ≤ 4 → n ≢ 1 → n ≢ 3 → 2 ∣ n
even zero h a b = dvd-zero 2
even (suc zero) h a b = absurd (a refl)
even (suc (suc zero)) h a b = dvd_refl 2
even (suc (suc (suc zero))) h a b = absurd (b refl)
even (suc (suc (suc (suc zero)))) h a b = dvd_of_mod-eq-zero 2 refl
even (suc (suc (suc (suc (suc n))))) h a b = absurd (omega arith)

three : (n : ℕ) → n ≤ 4 → n ≢ 1 → n ≢ 2 → n ≢ 4 → 3 ∣ n
three zero h a b c = dvd-zero 3
three (suc zero) h a b c = absurd (a refl)
three (suc (suc zero)) h a b c = absurd (b refl)
three (suc (suc (suc zero))) h a b c = dvd_refl 3
three (suc (suc (suc (suc zero)))) h a b c = absurd (c refl)
three (suc (suc (suc (suc (suc n))))) h a b c = absurd (omega arith)

-- without an entry 1 or -1 there is an entry 3 or -3
pub some_odd : (v : List ℤ) → IsGcdOf v 1 → AtMost 4 v → HasNone (1 ∷ []) v → HasNone (3 ∷ []) v → ⊥
some_odd v primitive small ones threes =
    let most = common v 2 primitive (λ k h. even (unsigned_abs (entry v k)) (small k (pos 0) h)
    (λ e. ones k h (contains_first (unsigned_abs (entry v k)) 1 [] e)) (λ e. threes k h (contains_first (unsigned_abs (entry v k)) 3 [] e))) in
    absurd (omega (arith, most))

-- and one of absolute value 2 or 4
pub some_even : (v : List ℤ) → IsGcdOf v 1 → AtMost 4 v → HasNone (1 ∷ []) v → HasNone (2 ∷ 4 ∷ []) v → ⊥
some_even v primitive small ones evens =
    let most = common v 3 primitive (λ k h. three (unsigned_abs (entry v k)) (small k (pos 0) h)
    (λ e. ones k h (contains_first (unsigned_abs (entry v k)) 1 [] e))
    (λ e. evens k h (contains_first (unsigned_abs (entry v k)) 2 (4 ∷ []) e))
    (λ e. evens k h (contains_second (unsigned_abs (entry v k)) 2 4 e))) in
    absurd (omega (arith, most))

-- which number it is
pub contains_one : (n m : ℕ) → Contains (m ∷ []) n → n ≡ m
contains_one n m (zero, h, e) = sym e
contains_one n m (suc k, h, e) = absurd (omega arith)

pub contains_two : (n k m : ℕ) → Contains (k ∷ m ∷ []) n → (n ≡ k) ⊎ (n ≡ m)
contains_two n k m (zero, h, e) = inl (sym e)
contains_two n k m (suc zero, h, e) = inr (sym e)
contains_two n k m (suc (suc i), h, e) = absurd (omega arith)

pub apart : (v : List ℤ) (p q : ℕ) → IsLastOf (3 ∷ []) v p → IsLastOf (2 ∷ 4 ∷ []) v q → p ≢ q
apart v p q s t e =
    let a = contains_one (unsigned_abs (entry v p)) 3 s.here in
    let b = ap (λ k. unsigned_abs (entry v k)) e in
    elim (contains_two (unsigned_abs (entry v q)) 2 4 t.here) [ inl w ↦ absurd (omega (arith, a, b, w)) | inr w ↦ absurd (omega (arith, a, b, w)) ]
