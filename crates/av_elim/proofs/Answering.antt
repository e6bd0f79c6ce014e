-- The answers that follow from the span of an index.
use Rattle.std.proofs.Common.{◌≡◌, ◌≢◌, ℕ, arith, ℤ, pos, ◌+ℤ◌, ◌-ℤ◌, ◌*ℤ◌, ◌≤ℤ◌, ◌<ℤ◌, neg_ℤ, inl, inr, List, sym, ◌∙◌, true, false, Option, Some, None, true≢false, IfSome}
use Rattle.std.proofs.lemmas.Int.{ints, by_lt_z}
use Rattle.av_affine.proofs.Ring.{ring}
use Rattle.av_affine.proofs.Order.{product_nonneg, nonneg_by}
use Rattle.av_poly.specs.Rational.{IsRationalPoint, HasRationalPoint, HasRayAlong, IsWithinBounds, IsBounded, IsEndless, Spans}
use Rattle.av_elim.specs.declared.span.Span.{Span}
use Rattle.av_elim.specs.inner.Span.{Ways, Tells}
use Rattle.av_elim.specs.inner.Rows.{factor}

module _ (dim i : ℕ) (rows : List (List ℤ)) (g : Span) (t : Tells dim rows i g) where
  pub no_point : g.flat ≡ false → HasRationalPoint dim rows → ⊥
  no_point e p = true≢false (sym (t.near p.0 p.1 p.2).flat ∙ e)

  pub bounded : (l h : ℤ) → g.low ≡ Some l → g.high ≡ Some h → IsBounded dim rows i
  bounded l h e f = record {
    below = (l -ℤ pos 1, λ m y p. let n = rw e at (t.near m y p).low in let r = simp ring at n in simp ring (omega (arith, ints, r)));
    above = (h +ℤ pos 1, λ m y p. let n = rw f at (t.near m y p).high in omega (arith, ints, n));
    no_ray = λ d r. let w = t.ray_into d r in let a = rw e at w.low in let b = rw f at w.high in omega (arith, ints, a, b);
  }

  pub spans : (l h : ℤ) → g.flat ≡ true → g.low ≡ Some l → g.high ≡ Some h → l ≤ℤ h → Spans dim rows i l h
  spans l h a e f o = record {
    low_within = t.outof l (record { flat = a; low = rw e (omega (arith, ints)); high = rw f o });
    high_within = t.outof h (record { flat = a; low = rw e o; high = rw f (omega (arith, ints)) });
    least = λ x b. rw e at (t.into x b).low;
    greatest = λ x b. rw f at (t.into x b).high;
    bounded = bounded l h e f;
  }

  pub no_whole : (l h : ℤ) → g.low ≡ Some l → g.high ≡ Some h → h <ℤ l → (x : ℤ) → IsWithinBounds dim rows i x → ⊥
  no_whole l h e f o x b = let s = t.into x b in omega (arith, ints, rw e at s.low, rw f at s.high)

  lower_side : (x z m : ℤ) (y : List ℤ) → z ≤ℤ x → pos 0 <ℤ m → factor i y ≡ z *ℤ m → factor i y ≤ℤ (x *ℤ m)
  lower_side x z m y h k e = let p = product_nonneg m (x -ℤ z) (omega (arith, ints)) (omega (arith, ints)) in let r = simp ring at p in omega (arith, ints, r, e)

  upper_side : (x z m : ℤ) (y : List ℤ) → x ≤ℤ z → pos 0 <ℤ m → factor i y ≡ z *ℤ m → (x *ℤ m) ≤ℤ factor i y
  upper_side x z m y h k e = let p = product_nonneg m (z -ℤ x) (omega (arith, ints)) (omega (arith, ints)) in let r = simp ring at p in omega (arith, ints, r, e)

  ray : (x : ℤ) → x ≢ pos 0 → Ways g x → HasRayAlong dim rows i
  ray x n w =
      let r = t.ray_outof x w in
      (r.1, r.3, λ z. n (zero_of r.0 x r.2 (sym r.4 ∙ z)))
    where
      zero_of : (s x : ℤ) → pos 0 <ℤ s → s *ℤ x ≡ pos 0 → x ≡ pos 0
      zero_of s x h e =
          let a = nonneg_by s x h (omega (arith, ints, e)) in
          let b = nonneg_by s (neg_ℤ x) h (simp ring (omega (arith, ints, e))) in
          omega (arith, ints, a, b)

  pub ray_below : g.low ≡ None → HasRayAlong dim rows i
  ray_below e = ray (neg_ℤ (pos 1)) (λ z. omega (arith, ints)) (record { low = rw e tt; high = always_below g.high })
    where
      always_below : (o : Option ℤ) → IfSome o (λ h. neg_ℤ (pos 1) ≤ℤ pos 0)
      always_below None = tt
      always_below (Some h) = omega (arith, ints)

  pub ray_above : g.high ≡ None → HasRayAlong dim rows i
  ray_above e = ray (pos 1) (λ z. omega (arith, ints)) (record { low = always_above g.low; high = rw e tt })
    where
      always_above : (o : Option ℤ) → IfSome o (λ l. pos 0 ≤ℤ pos 1)
      always_above None = tt
      always_above (Some l) = omega (arith, ints)

  -- a whole number in the span at most x, and one at least x
  pub endless_below : g.flat ≡ true → g.low ≡ None → HasRationalPoint dim rows × IsEndless dim rows i
  endless_below a e = let b = at (pos 0) in ((b.0, b.1, b.2), inl at)
    where
      pick : (x : ℤ) (o : Option ℤ) → (z : ℤ) × (z ≤ℤ x) × IfSome o (λ h. z ≤ℤ h)
      pick x None = (x, omega (arith, ints), tt)
      pick x (Some h) = by_lt_z x h (λ l. (x, omega (arith, ints), omega (arith, ints))) (λ l. (h, l, omega (arith, ints)))

      at : (x : ℤ) → (m : ℤ) × (y : List ℤ) × IsRationalPoint dim rows m y × (factor i y ≤ℤ (x *ℤ m))
      at x =
          let z = pick x g.high in
          let b = t.outof z.0 (record { flat = a; low = rw e tt; high = z.2 }) in
          (b.0, b.1, b.2, lower_side x z.0 b.0 b.1 z.1 b.2.positive b.3)

  pub endless_above : g.flat ≡ true → g.high ≡ None → HasRationalPoint dim rows × IsEndless dim rows i
  endless_above a e = let b = at (pos 0) in ((b.0, b.1, b.2), inr at)
    where
      pick : (x : ℤ) (o : Option ℤ) → (z : ℤ) × (x ≤ℤ z) × IfSome o (λ l. l ≤ℤ z)
      pick x None = (x, omega (arith, ints), tt)
      pick x (Some l) = by_lt_z x l (λ h. (l, omega (arith, ints), omega (arith, ints))) (λ h. (x, omega (arith, ints), h))

      at : (x : ℤ) → (m : ℤ) × (y : List ℤ) × IsRationalPoint dim rows m y × ((x *ℤ m) ≤ℤ factor i y)
      at x =
          let z = pick x g.low in
          let b = t.outof z.0 (record { flat = a; low = z.2; high = rw e tt }) in
          (b.0, b.1, b.2, upper_side x z.0 b.0 b.1 z.1 b.2.positive b.3)
