-- What is read of rows with one place left is what the rows say of that index.
use Rattle.std.proofs.Common.{◌≡◌, ◌≢◌, ℕ, suc, ◌+◌, ◌<◌, ◌≤◌, arith, ℤ, pos, ◌+ℤ◌, ◌*ℤ◌, ◌≤ℤ◌, ◌<ℤ◌, ◌⊎◌, ⊎_elim, List, [], ◌∷◌, length, refl, ap, sym, ◌∙◌, subst, length-set, get_or-set_same}
use Rattle.std.proofs.Math.ListN.{set, replicate, length-replicate}
use Rattle.std.proofs.lemmas.Int.{ints}
use Rattle.av_affine.proofs.Ring.{ring, cube}
use Rattle.av_affine.proofs.Order.{nonneg_by}
use Rattle.av_elim.proofs.Shadows.{dot_two, shadow_none, shadow_more}
use Rattle.av_elim.proofs.Merging.{stands_same}
use Rattle.av_elim.proofs.Steps.{projects}
use Rattle.av_elim.proofs.Growth.{clear_here, clear_kept}
use Rattle.av_elim.specs.inner.Step.{eliminated}
use Rattle.std.proofs.lemmas.Bool.{cases_eq, cases_lt}
use Rattle.av_elim.specs.inner.Span.{Tells, scanned, whole}
use Rattle.av_elim.proofs.Reading.{Fits, AllFit, in_all, out_all, near_all, ways_all, all_ways}
use Rattle.av_poly.specs.Rational.{Satisfies, IsRationalPoint, IsDirection, IsWithinBounds}
use Rattle.av_elim.specs.inner.Rows.{factor, Shadow, Clear}
use Rattle.av_base.proofs.Lists.{each_weaker}

fits_of : (v : List ℤ) (k : ℕ) (out : List (List ℤ)) → 0 < k → k < length v → ((j : ℕ) → 0 < j → j ≢ k → j < length v → Clear j out) → Satisfies out v → AllFit k (factor 0 v) (factor k v) out
fits_of v k [] i l c h = tt
fits_of v k (r ∷ out) i l c h = (subst (λ (z : ℤ). pos 0 ≤ℤ z) (dot_two r v k i l (λ j a b d. (c j a b d).0)) h.0, fits_of v k out i l (λ j a b d. (c j a b d).1) h.1)

of_fits : (v : List ℤ) (k : ℕ) (out : List (List ℤ)) → 0 < k → k < length v → ((j : ℕ) → 0 < j → j ≢ k → j < length v → Clear j out) → AllFit k (factor 0 v) (factor k v) out → Satisfies out v
of_fits v k [] i l c h = tt
of_fits v k (r ∷ out) i l c h = (subst (λ (z : ℤ). pos 0 ≤ℤ z) (sym (dot_two r v k i l (λ j a b d. (c j a b d).0))) h.0, of_fits v k out i l (λ j a b d. (c j a b d).1) h.1)

unpack : (dim i : ℕ) (rows : List (List ℤ)) (s x : ℤ) (w : List ℤ) → pos 0 <ℤ s → length w ≡ dim + 1 → factor 0 w ≡ s *ℤ pos 1 → factor (suc i) w ≡ s *ℤ x → Satisfies rows w → IsWithinBounds dim rows i x
unpack dim i rows s x [] a b c d h = absurd (omega arith)
unpack dim i rows s x (m ∷ y) a b c d h = (m, y, record { size = omega arith; positive = let e : m ≡ s *ℤ pos 1 = c in omega (arith, ints, e); satisfies = h }, plain s x m (factor i y) c d)
  where
    plain : (s x m z : ℤ) → m ≡ s *ℤ pos 1 → z ≡ s *ℤ x → z ≡ x *ℤ m
    plain s x m z e f = rw (e, f) (omega (arith, ints, cube))

unpack_ray : (dim i : ℕ) (rows : List (List ℤ)) (s x : ℤ) (w : List ℤ) → pos 0 <ℤ s → length w ≡ dim + 1 → factor 0 w ≡ s *ℤ pos 0 → factor (suc i) w ≡ s *ℤ x → Satisfies rows w → (s : ℤ) × (d : List ℤ) × (pos 0 <ℤ s) × IsDirection dim rows d × (factor i d ≡ s *ℤ x)
unpack_ray dim i rows s x [] a b c d h = absurd (omega arith)
unpack_ray dim i rows s x (m ∷ y) a b c d h = let e : m ≡ s *ℤ pos 0 = c in let z : m ≡ pos 0 = omega (arith, ints, e) in (s, y, a, record { size = omega arith; satisfies = subst (λ (m : ℤ). Satisfies rows (m ∷ y)) z h }, d)

unscaled : (c a m x : ℤ) → pos 0 <ℤ m → pos 0 ≤ℤ (c *ℤ m +ℤ a *ℤ (x *ℤ m)) → pos 0 ≤ℤ (c *ℤ pos 1 +ℤ a *ℤ x)
unscaled c a m x h k = nonneg_by m (c *ℤ pos 1 +ℤ a *ℤ x) h (simp ring (omega (arith, ints, cube, k)))

positive_nonneg : (m : ℤ) → pos 0 <ℤ m → pos 0 ≤ℤ m
positive_nonneg m h = omega (arith, ints)

module _ (dim i n : ℕ) (rows out : List (List ℤ)) (within : i < dim) (few : n ≤ dim + 1) (shadow : Shadow n (suc i) rows out) (clear : (j : ℕ) → 0 < j → j ≢ suc i → j ≤ dim → Clear j out) where
  fit : (m : ℤ) (y : List ℤ) → IsRationalPoint dim rows m y → AllFit (suc i) m (factor i y) out
  fit m y p = fits_of (m ∷ y) (suc i) out (omega arith) (omega (arith, p.size)) (λ j a b d. clear j a b (omega (arith, p.size))) (shadow.kept (m ∷ y) (positive_nonneg m p.positive) p.satisfies)

  pub tells : Tells dim rows i (scanned (suc i) out whole)
  tells = record {
    into = λ x b.
        let m = b.0 in
        let y = b.1 in
        in_all (suc i) out _ x (record { flat = refl; low = tt; high = tt })
        (each_weaker (λ r. Fits (factor (suc i) r) (factor 0 r) m (x *ℤ m)) (λ r. Fits (factor (suc i) r) (factor 0 r) (pos 1) x) (λ r h. unscaled (factor 0 r) (factor (suc i) r) m x b.2.positive h) out
        (subst (λ z. AllFit (suc i) m z out) b.3 (fit m y b.2)));
    outof = λ x h.
        let v = pos 1 ∷ set (replicate dim (pos 0)) i x in
        let l : length v ≡ dim + 1 = omega (arith, length-set (replicate dim (pos 0)) i x, length-replicate dim (pos 0)) in
        let e : factor (suc i) v ≡ x = get_or-set_same (replicate dim (pos 0)) i x (pos 0) (omega (arith, length-replicate dim (pos 0))) in
        let f = (out_all (suc i) out _ x h).1 in
        let b = shadow.back v (omega (arith, ints)) (omega (arith, l, few)) (of_fits v (suc i) out (omega arith) (omega (arith, l)) (λ j a b d. clear j a b (omega (arith, l))) (rw e f)) in
        unpack dim i rows b.0 x b.1 b.2 (b.3 ∙ l) b.4 (b.5 ∙ ap (λ z. b.0 *ℤ z) e) b.6;
    ray_into = λ d r. ways_all (suc i) out _ (factor i d) (record { low = tt; high = tt }) (fits_of (pos 0 ∷ d) (suc i) out (omega arith) (omega (arith, r.size)) (λ j a b e. clear j a b (omega (arith, r.size))) (shadow.kept (pos 0 ∷ d) (omega (arith, ints)) r.satisfies));
    ray_outof = λ x h.
        let v = pos 0 ∷ set (replicate dim (pos 0)) i x in
        let l : length v ≡ dim + 1 = omega (arith, length-set (replicate dim (pos 0)) i x, length-replicate dim (pos 0)) in
        let e : factor (suc i) v ≡ x = get_or-set_same (replicate dim (pos 0)) i x (pos 0) (omega (arith, length-replicate dim (pos 0))) in
        let f = (all_ways (suc i) out _ x h).1 in
        let b = shadow.back v (omega (arith, ints)) (omega (arith, l, few)) (of_fits v (suc i) out (omega arith) (omega (arith, l)) (λ j a b d. clear j a b (omega (arith, l))) (rw e f)) in
        unpack_ray dim i rows b.0 x b.1 b.2 (b.3 ∙ l) b.4 (b.5 ∙ ap (λ z. b.0 *ℤ z) e) b.6;
    near = λ m y p. near_all (suc i) out _ m (factor i y) p.positive (record { flat = refl; low = tt; high = tt }) (fit m y p);
  }

-- the index alone
pub tells_one : (dim i : ℕ) (rows : List (List ℤ)) → i < dim → dim ≡ 1 → Tells dim rows i (scanned (suc i) rows whole)
tells_one dim i rows within one = tells dim i 0 rows rows within (omega arith) (shadow_none 0 (suc i) rows rows (stands_same rows)) (λ j a n b. absurd (n (omega arith)))

-- after the step that leaves the index alone
pub tells_last : (dim i last : ℕ) (rows left : List (List ℤ)) → i < dim → i ≢ last → (last + 1 ≡ dim) ⊎ ((last + 2 ≡ dim) × (i + 1 ≡ dim)) → Shadow (suc last) (suc i) rows left
    → ((j : ℕ) → 0 < j → j ≤ last → j ≢ suc i → Clear j left) → Tells dim rows i (scanned (suc i) (eliminated (suc last) left) whole)
tells_last dim i last rows left within other rest s clear =
    tells dim i (suc (suc last)) rows (eliminated (suc last) left) within (⊎_elim (λ e. omega (arith, e)) (λ e. omega (arith, e.0)) rest)
    (shadow_more (suc last) (suc (suc last)) (suc i) (suc last) rows left (eliminated (suc last) left) (omega arith) (λ e. other (omega arith)) (omega arith) (omega arith) s (projects (suc last) left))
    (λ j a n b. ⊎_elim
    (λ e. subst (λ (z : ℕ). Clear z (eliminated (suc last) left)) (sym e) (clear_here (suc last) left))
    (λ e. ⊎_elim
    (λ l. clear_kept j (suc last) left (clear j a (omega arith) n))
    (λ l. absurd (n (⊎_elim (λ q. absurd (e (omega (arith, q, b, l)))) (λ q. omega (arith, q.0, q.1, b, l, past j last e l)) rest)))
    (cases_lt j (suc last)))
    (cases_eq j (suc last)))
  where
    past : (j last : ℕ) → j ≢ suc last → suc last ≤ j → suc (suc last) ≤ j
    past j last e l = ⊎_elim (λ k. absurd (e (omega (arith, l, k)))) (λ k. k) (cases_lt j (suc (suc last)))
