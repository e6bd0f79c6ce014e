-- Rows that stand for others: one after another, divided by a common factor, and with a row in the place of a weaker one.
use Rattle.std.proofs.Common.{◌≡◌, ℕ, zero, suc, ◌<◌, ◌≤◌, ◌^◌, arith, ℤ, pos, ◌+ℤ◌, ◌-ℤ◌, ◌*ℤ◌, ◌≤ℤ◌, ◌<ℤ◌, List, [], ◌∷◌, ◌++◌, length, get_or, refl, ap, ap₂, sym, ◌∙◌, subst}
use Rattle.std.proofs.Math.ListN.{set}
use Rattle.std.specs.List.{AllByRecursion}
use Rattle.std.specs.Int.{int_div_euclid}
use Rattle.std.specs.Int.RustNames.{unsigned_abs}
use Rattle.std.proofs.lemmas.Int.{ints, unsigned_abs-mul}
use Rattle.std.proofs.lemmas.List.{get_or_default}
use Rattle.std.proofs.lemmas.List.Elements.{recursion_from_All}
use Rattle.std.proofs.Math.IntN.{*ℤ_comm}
use Rattle.std.proofs.Math.Nat.{mul-le-mul, dvd_trans}
use Prim.Native.Nat.{◌∣◌}
use Rattle.av_affine.specs.declared.form.Form.{Form}
use Rattle.av_affine.specs.Numbers.{dot, AtMost, IsGcdOf}
use Rattle.av_affine.specs.Forms.{IsWithinLimits}
use Rattle.av_affine.proofs.Ring.{ring}
use Rattle.av_affine.proofs.Order.{product_nonneg, nonneg_by}
use Rattle.av_affine.proofs.Exact.{exact, divided}
use Rattle.av_affine.proofs.Dots.{entry_most}
use Rattle.av_poly.specs.Rational.{homogeneous}
use Rattle.av_elim.specs.inner.Rows.{line, scale, combine, factor, Small, IsReduced, StandsFor}
use Rattle.av_elim.proofs.Lift.{dot_scale', factor_scale}
use Rattle.av_base.proofs.Lists.{each_append, each_first, each_second}

pub stands_same : (rows : List (List ℤ)) → StandsFor rows rows
stands_same rows = record { kept = λ v o h. h; back = λ v o h. h; small = λ b h. h; clear = λ j h. h }

pub stands_after : (a b c : List (List ℤ)) → StandsFor a b → StandsFor b c → StandsFor a c
stands_after a b c s t = record {
  kept = λ v o h. t.kept v o (s.kept v o h);
  back = λ v o h. s.back v o (t.back v o h);
  small = λ n h. t.small n (s.small n h);
  clear = λ j h. t.clear j (s.clear j h);
}

-- with the same rows behind both
pub stands_before : (a b zs : List (List ℤ)) → StandsFor a b → StandsFor (a ++ zs) (b ++ zs)
stands_before a b zs s = record {
  kept = λ v o h. each_append (λ r. pos 0 ≤ℤ dot r v) b zs (s.kept v o (each_first (λ r. pos 0 ≤ℤ dot r v) a zs h)) (each_second (λ r. pos 0 ≤ℤ dot r v) a zs h);
  back = λ v o h. each_append (λ r. pos 0 ≤ℤ dot r v) a zs (s.back v o (each_first (λ r. pos 0 ≤ℤ dot r v) b zs h)) (each_second (λ r. pos 0 ≤ℤ dot r v) b zs h);
  small = λ n h. each_append (Small n) b zs (s.small n (each_first (Small n) a zs h)) (each_second (Small n) a zs h);
  clear = λ j h. each_append (λ r. factor j r ≡ pos 0) b zs (s.clear j (each_first (λ r. factor j r ≡ pos 0) a zs h)) (each_second (λ r. factor j r ≡ pos 0) a zs h);
}

-- with the same rows before both
pub stands_behind : (zs a b : List (List ℤ)) → StandsFor a b → StandsFor (zs ++ a) (zs ++ b)
stands_behind zs a b s = record {
  kept = λ v o h. each_append (λ r. pos 0 ≤ℤ dot r v) zs b (each_first (λ r. pos 0 ≤ℤ dot r v) zs a h) (s.kept v o (each_second (λ r. pos 0 ≤ℤ dot r v) zs a h));
  back = λ v o h. each_append (λ r. pos 0 ≤ℤ dot r v) zs a (each_first (λ r. pos 0 ≤ℤ dot r v) zs b h) (s.back v o (each_second (λ r. pos 0 ≤ℤ dot r v) zs b h));
  small = λ n h. each_append (Small n) zs b (each_first (Small n) zs a h) (s.small n (each_second (Small n) zs a h));
  clear = λ j h. each_append (λ r. factor j r ≡ pos 0) zs b (each_first (λ r. factor j r ≡ pos 0) zs a h) (s.clear j (each_second (λ r. factor j r ≡ pos 0) zs a h));
}

-- ---- a row divided by a common factor of its numbers

positive_times : (s x : ℤ) → pos 0 <ℤ s → unsigned_abs x ≤ unsigned_abs (s *ℤ x)
positive_times s x h = omega (arith, unsigned_abs-mul s x, mul-le-mul (one s h) (le x))
  where
    one : (s : ℤ) → pos 0 <ℤ s → 1 ≤ unsigned_abs s
    one s h = omega (arith, ints)

    le : (x : ℤ) → unsigned_abs x ≤ unsigned_abs x
    le x = omega arith

module _ (r q : List ℤ) (s : IsReduced r q) where
  times : (j : ℕ) → factor j r ≡ s.divisor *ℤ factor j q
  times j = ap (factor j) s.product ∙ factor_scale s.divisor q j

  less : (j : ℕ) → unsigned_abs (factor j q) ≤ unsigned_abs (factor j r)
  less j = rw (times j) (positive_times s.divisor (factor j q) s.positive)

  dots : (v : List ℤ) → dot r v ≡ s.divisor *ℤ dot q v
  dots v = ap (λ xs. dot xs v) s.product ∙ dot_scale' q v s.divisor

  zero_of : (d x : ℤ) → pos 0 <ℤ d → d *ℤ x ≡ pos 0 → x ≡ pos 0
  zero_of d x h e =
      let a = nonneg_by d x h (omega (arith, ints, e)) in
      let b = nonneg_by d (pos 0 -ℤ x) h (simp ring (omega (arith, ints, e))) in
      omega (arith, ints, a, b)

  pub stands_reduced : StandsFor (r ∷ []) (q ∷ [])
  stands_reduced = record {
    kept = λ v o h. (nonneg_by s.divisor (dot q v) s.positive (subst (λ (z : ℤ). pos 0 ≤ℤ z) (dots v) h.0), tt);
    back = λ v o h. (subst (λ (z : ℤ). pos 0 ≤ℤ z) (sym (dots v)) (product_nonneg s.divisor (dot q v) (omega (arith, ints, s.positive)) h.0), tt);
    small = λ b h. (record { constant = omega (arith, less 0, h.0.constant); coefficients = λ j i. omega (arith, less j, h.0.coefficients j i) }, tt);
    clear = λ j h. (zero_of s.divisor (factor j q) s.positive (sym (times j) ∙ h.0), tt);
  }

pub reduced_same : (r : List ℤ) → IsReduced r r
reduced_same r = record { divisor = pos 1; positive = omega (arith, ints); product = once r }
  where
    once : (xs : List ℤ) → xs ≡ scale (pos 1) xs
    once [] = refl
    once (x ∷ xs) = let e : x ≡ pos 1 *ℤ x = omega (arith, ints) in rw (← e, ← once xs) refl

divided_again : (xs : List ℤ) (g : ℕ) → 0 < g → AllByRecursion (λ x. g ∣ unsigned_abs x) xs → xs ≡ scale (pos g) (divided xs g)
divided_again [] g h d = refl
divided_again (x ∷ xs) g h d =
    let e : pos g *ℤ int_div_euclid x (pos g) ≡ x = *ℤ_comm (pos g) (int_div_euclid x (pos g)) ∙ exact x g h d.0 in
    ap (λ z. z ∷ xs) (sym e) ∙ ap (λ (zs : List ℤ). (pos g *ℤ int_div_euclid x (pos g)) ∷ zs) (divided_again xs g h d.1)

pub reduced_by : (c : ℤ) (coef : List ℤ) (g h : ℕ) → IsGcdOf coef g → h ∣ g → h ∣ unsigned_abs c → 0 < h → IsReduced (c ∷ coef) (int_div_euclid c (pos h) ∷ divided coef h)
reduced_by c coef g h s d e p = record {
  divisor = pos h;
  positive = omega (arith, ints);
  product = divided_again (c ∷ coef) h p (e, each coef (recursion_from_All (λ x. g ∣ unsigned_abs x) coef s.divides));
}
  where
    each : (xs : List ℤ) → AllByRecursion (λ x. g ∣ unsigned_abs x) xs → AllByRecursion (λ x. h ∣ unsigned_abs x) xs
    each [] k = tt
    each (x ∷ xs) k = (dvd_trans h d k.0, each xs k.1)

-- ---- a row in the place of another

module _ (Q : List ℤ → Type 0) where
  all_get : (rows : List Form) (k : ℕ) (d : Form) → k < length rows → AllByRecursion Q (homogeneous rows) → Q (line (get_or rows k d))
  all_get [] k d l h = absurd (omega arith)
  all_get (r ∷ rows) zero d l h = h.0
  all_get (r ∷ rows) (suc k) d l h = all_get rows k d (omega arith) h.1

  all_set : (rows : List Form) (k : ℕ) (r : Form) → AllByRecursion Q (homogeneous rows) → Q (line r) → AllByRecursion Q (homogeneous (set rows k r))
  all_set [] zero r h q = tt
  all_set [] (suc k) r h q = tt
  all_set (x ∷ rows) zero r h q = (q, h.1)
  all_set (x ∷ rows) (suc k) r h q = (h.0, all_set rows k r h.1 q)

  all_unset : (rows : List Form) (k : ℕ) (r d : Form) → k < length rows → AllByRecursion Q (homogeneous (set rows k r)) → Q (line (get_or rows k d)) → AllByRecursion Q (homogeneous rows)
  all_unset [] k r d l h q = tt
  all_unset (x ∷ rows) zero r d l h q = (q, h.1)
  all_unset (x ∷ rows) (suc k) r d l h q = (h.0, all_unset rows k r d (omega arith) h.1 q)

  all_here : (rows : List Form) (k : ℕ) (r : Form) → k < length rows → AllByRecursion Q (homogeneous (set rows k r)) → Q (line r)
  all_here [] k r l h = absurd (omega arith)
  all_here (x ∷ rows) zero r l h = h.0
  all_here (x ∷ rows) (suc k) r l h = all_here rows k r (omega arith) h.1

-- of rows with equal coefficients that with the least constant is the strongest
weakened : (a b : Form) (v : List ℤ) → a.coef ≡ b.coef → a.constant ≤ℤ b.constant → pos 0 ≤ℤ factor 0 v → pos 0 ≤ℤ dot (line a) v → pos 0 ≤ℤ dot (line b) v
weakened a b [] e l o h = omega (arith, ints)
weakened a b (m ∷ y) e l o h =
    let p = product_nonneg (b.constant -ℤ a.constant) m (omega (arith, ints, l)) o in
    let q = simp ring at p in
    let f : dot a.coef y ≡ dot b.coef y = ap (λ xs. dot xs y) e in
    omega (arith, ints, q, f, h)

module _ (rows : List Form) (k : ℕ) (d row : Form) (l : k < length rows) (e : (get_or rows k d).coef ≡ row.coef) where
  at : (Q : List ℤ → Type 0) → AllByRecursion Q (homogeneous rows ++ line row ∷ []) → AllByRecursion Q (homogeneous rows) × Q (line row)
  at Q h = (each_first Q (homogeneous rows) (line row ∷ []) h, (each_second Q (homogeneous rows) (line row ∷ []) h).0)

  pub stands_stronger : (get_or rows k d).constant ≤ℤ row.constant → StandsFor (homogeneous rows ++ line row ∷ []) (homogeneous rows)
  stands_stronger o = record {
    kept = λ v p h. (at (λ r. pos 0 ≤ℤ dot r v) h).0;
    back = λ v p h. each_append (λ r. pos 0 ≤ℤ dot r v) (homogeneous rows) (line row ∷ []) h (weakened (get_or rows k d) row v e o p (all_get (λ r. pos 0 ≤ℤ dot r v) rows k d l h), tt);
    small = λ b h. (at (Small b) h).0;
    clear = λ j h. (at (λ r. factor j r ≡ pos 0) h).0;
  }

  pub stands_replaced : row.constant ≤ℤ (get_or rows k d).constant → StandsFor (homogeneous rows ++ line row ∷ []) (homogeneous (set rows k row))
  stands_replaced o = record {
    kept = λ v p h. let a = at (λ r. pos 0 ≤ℤ dot r v) h in all_set (λ r. pos 0 ≤ℤ dot r v) rows k row a.0 a.1;
    back = λ v p h.
        let q = all_here (λ r. pos 0 ≤ℤ dot r v) rows k row l h in
        each_append (λ r. pos 0 ≤ℤ dot r v) (homogeneous rows) (line row ∷ []) (all_unset (λ r. pos 0 ≤ℤ dot r v) rows k row d l h (weakened row (get_or rows k d) v (sym e) o p q)) (q, tt);
    small = λ b h. let a = at (Small b) h in all_set (Small b) rows k row a.0 a.1;
    clear = λ j h. let a = at (λ r. factor j r ≡ pos 0) h in all_set (λ r. factor j r ≡ pos 0) rows k row a.0 a.1;
  }

-- ---- sizes

pub small_within : (row : Form) → IsWithinLimits row → Small (2 ^ 10) (line row)
small_within row h = record { constant = h.constant; coefficients = each }
  where
    each : (j : ℕ) → 0 < j → unsigned_abs (factor j (line row)) ≤ 2 ^ 10
    each zero l = absurd (omega arith)
    each (suc j) l = entry_most 1024 row.coef j h.coefficients

pub larger : (b c : ℕ) (r : List ℤ) → b ≤ c → Small b r → Small c r
larger b c r h s = record { constant = omega (arith, s.constant); coefficients = λ j i. omega (arith, s.coefficients j i) }

-- four entries and a constant make a combination
pub four_combined : (f g : ℤ) (p n : List ℤ) (a b c d : ℤ) → length p ≡ 4 → length n ≡ 4 → a ≡ f *ℤ get_or n 0 (pos 0) +ℤ g *ℤ get_or p 0 (pos 0) → b ≡ f *ℤ get_or n 1 (pos 0) +ℤ g *ℤ get_or p 1 (pos 0)
    → c ≡ f *ℤ get_or n 2 (pos 0) +ℤ g *ℤ get_or p 2 (pos 0) → d ≡ f *ℤ get_or n 3 (pos 0) +ℤ g *ℤ get_or p 3 (pos 0) → a ∷ b ∷ c ∷ d ∷ [] ≡ combine f g p n
four_combined f g p n a b c d h i e0 e1 e2 e3 = rw (e0, e1, e2, e3) (sym (ap₂ (combine f g) (four p h) (four n i)))
  where
    four : (r : List ℤ) → length r ≡ 4 → r ≡ get_or r 0 (pos 0) ∷ get_or r 1 (pos 0) ∷ get_or r 2 (pos 0) ∷ get_or r 3 (pos 0) ∷ []
    four [] e = absurd (omega arith)
    four (x ∷ []) e = absurd (omega arith)
    four (x ∷ y ∷ []) e = absurd (omega arith)
    four (x ∷ y ∷ z ∷ []) e = absurd (omega arith)
    four (x ∷ y ∷ z ∷ w ∷ []) e = refl
    four (x ∷ y ∷ z ∷ w ∷ v ∷ r) e = absurd (omega arith)

-- the greatest common divisor of small coefficients is small
pub divisor_small : (row : Form) (g : ℕ) → Small (2 ^ 43) (line row) → ((most : ℕ) → AtMost most row.coef → g ≤ most) → g ≤ 2 ^ 43
divisor_small row g small most =
    most (2 ^ 43) (λ k d l. subst (λ (x : ℤ). unsigned_abs x ≤ 2 ^ 43) (get_or_default row.coef k (pos 0) d l) (small.coefficients (suc k) (omega arith)))
