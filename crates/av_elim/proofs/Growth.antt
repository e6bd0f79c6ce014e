-- What each row of the step has, and steps one after another.
use Rattle.std.proofs.Common.{◌≡◌, ℕ, ◌+◌, ◌*◌, ◌<◌, ◌≤◌, arith, ℤ, pos, ◌+ℤ◌, ◌*ℤ◌, neg_ℤ, List, [], ◌∷◌, ◌++◌, cond, int_lt, le_refl}
use Rattle.std.specs.Ordering.{int_eq}
use Rattle.std.specs.Int.RustNames.{unsigned_abs}
use Rattle.std.proofs.Math.Nat.{mul-le-mul}
use Rattle.std.proofs.lemmas.Int.{ints, unsigned_abs-mul}
use Rattle.std.specs.List.{AllByRecursion}
use Rattle.av_affine.proofs.Ring.{ring}
use Rattle.av_elim.proofs.Steps.{split}
use Rattle.av_elim.proofs.Lift.{factor_combine}
use Rattle.av_elim.specs.inner.Rows.{factor, Clear, Small}
use Rattle.av_elim.specs.inner.Step.{pairs_of, all_pairs, flats, combination, eliminated}
use Rattle.av_base.proofs.Lists.{each_append}

-- what rows without k and combinations have, each row out has
module _ (P Q : List ℤ → Type 0) (k : ℕ) (flat : (r : List ℤ) → P r → factor k r ≡ pos 0 → Q r)
    (pair : (p n : List ℤ) → P p → P n → Q (combination k p n)) where
  flats_all : (rows : List (List ℤ)) → AllByRecursion P rows → AllByRecursion Q (flats k rows)
  flats_all [] h = tt
  flats_all (r ∷ rows) h = split (λ t. AllByRecursion Q (cond t (r ∷ flats k rows) (flats k rows))) (int_eq (factor k r) (pos 0))
      (λ e. (flat r h.0 (grind (arith, ints)), flats_all rows h.1))
      (λ e. flats_all rows h.1)

  pairs_all : (p : List ℤ) (rows : List (List ℤ)) → P p → AllByRecursion P rows → AllByRecursion Q (pairs_of k p rows)
  pairs_all p [] hp h = tt
  pairs_all p (n ∷ rows) hp h = split (λ t. AllByRecursion Q (cond t (combination k p n ∷ pairs_of k p rows) (pairs_of k p rows))) (int_lt (factor k n) (pos 0))
      (λ e. (pair p n hp h.0, pairs_all p rows hp h.1))
      (λ e. pairs_all p rows hp h.1)

  all_all : (ps rows : List (List ℤ)) → AllByRecursion P ps → AllByRecursion P rows → AllByRecursion Q (all_pairs k ps rows)
  all_all [] rows hp h = tt
  all_all (p ∷ ps) rows hp h = split (λ t. AllByRecursion Q (cond t (pairs_of k p rows ++ all_pairs k ps rows) (all_pairs k ps rows))) (int_lt (pos 0) (factor k p))
      (λ e. each_append Q (pairs_of k p rows) (all_pairs k ps rows) (pairs_all p rows hp.0 h) (all_all ps rows hp.1 h))
      (λ e. all_all ps rows hp.1 h)

  pub eliminated_all : (rows : List (List ℤ)) → AllByRecursion P rows → AllByRecursion Q (eliminated k rows)
  eliminated_all rows h = each_append Q (flats k rows) (all_pairs k rows rows) (flats_all rows h) (all_all rows rows h h)

every : {X : Type 0} (xs : List X) → AllByRecursion (λ (x : X). Unit {0}) xs
every [] = tt
every (x ∷ xs) = (tt, every xs)

pub clear_here : (k : ℕ) (rows : List (List ℤ)) → Clear k (eliminated k rows)
clear_here k rows = eliminated_all (λ r. Unit {0}) (λ r. factor k r ≡ pos 0) k (λ r h e. e) (λ p n h i. plain (factor k p) (factor k n) (factor k (combination k p n)) (factor_combine (factor k p) (neg_ℤ (factor k n)) p n k)) rows (every rows)
  where
    plain : (a b c : ℤ) → c ≡ a *ℤ b +ℤ neg_ℤ b *ℤ a → c ≡ pos 0
    plain a b c e = let f = simp ring at e in omega (arith, ints, f)

pub clear_kept : (j k : ℕ) (rows : List (List ℤ)) → Clear j rows → Clear j (eliminated k rows)
clear_kept j k rows h = eliminated_all (λ r. factor j r ≡ pos 0) (λ r. factor j r ≡ pos 0) k (λ r h e. h) (λ p n h i. plain (factor k p) (neg_ℤ (factor k n)) (factor j p) (factor j n) (factor j (combination k p n)) h i (factor_combine (factor k p) (neg_ℤ (factor k n)) p n j)) rows h
  where
    plain : (a b x y c : ℤ) → x ≡ pos 0 → y ≡ pos 0 → c ≡ a *ℤ y +ℤ b *ℤ x → c ≡ pos 0
    plain a b x y c e f g = let h = rw (e, f) at g in omega (arith, ints, h)

-- entries grow by a product
pub entry_size : (a b x y : ℤ) (m n : ℕ) → unsigned_abs a ≤ m → unsigned_abs b ≤ m → unsigned_abs x ≤ n → unsigned_abs y ≤ n → unsigned_abs (a *ℤ y +ℤ neg_ℤ b *ℤ x) ≤ m * n + m * n
entry_size a b x y m n h i j k = omega (arith, ints, abs_sum (a *ℤ y) (neg_ℤ b *ℤ x), unsigned_abs-mul a y, unsigned_abs-mul (neg_ℤ b) x, mul-le-mul h k, mul-le-mul (abs_neg b m i) j)
  where
    abs_sum : (a b : ℤ) → unsigned_abs (a +ℤ b) ≤ unsigned_abs a + unsigned_abs b
    abs_sum a b = omega (arith, ints)

    abs_neg : (b : ℤ) (m : ℕ) → unsigned_abs b ≤ m → unsigned_abs (neg_ℤ b) ≤ m
    abs_neg b m h = omega (arith, ints)

pub small_combination : (b k : ℕ) (p n : List ℤ) → 0 < k → Small b p → Small b n → Small (2 * b * b) (combination k p n)
small_combination b k p n h s t = record {
  constant = let e = factor_combine (factor k p) (neg_ℤ (factor k n)) p n 0 in
      let i = entry_size (factor k p) (factor k n) (factor 0 p) (factor 0 n) b (1024 * b) (s.coefficients k h) (t.coefficients k h) s.constant t.constant in rw e (omega (arith, i));
  coefficients = λ j pos_j. let e = factor_combine (factor k p) (neg_ℤ (factor k n)) p n j in
      let i = entry_size (factor k p) (factor k n) (factor j p) (factor j n) b b (s.coefficients k h) (t.coefficients k h) (s.coefficients j pos_j) (t.coefficients j pos_j) in rw e (omega (arith, i));
}

pub small_eliminated : (b k : ℕ) (rows : List (List ℤ)) → 0 < b → 0 < k → AllByRecursion (Small b) rows → AllByRecursion (Small (2 * b * b)) (eliminated k rows)
small_eliminated b k rows some h = eliminated_all (Small b) (Small (2 * b * b)) k (λ r s e. larger r s) (λ p n s t. small_combination b k p n h s t) rows
  where
    more : b ≤ 2 * b * b
    more = omega (arith, mul-le-mul (some') (le_refl b))
      where
        some' : 1 ≤ 2 * b
        some' = omega arith

    larger : (r : List ℤ) → Small b r → Small (2 * b * b) r
    larger r s = record { constant = omega (arith, s.constant, more); coefficients = λ j i. omega (arith, s.coefficients j i, more) }
