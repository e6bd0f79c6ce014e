-- The loop over the indices.
use Rattle.std.proofs.Common.{◌≡◌, ℕ, zero, suc, ◌+◌, ◌<◌, ◌≤◌, arith, ℤ, pos, ◌≤ℤ◌, ◌<ℤ◌, List, [], ◌∷◌, length, refl, ◌∙◌, Bool, true, false, Some, true≢false, length-set, get_or-set_same, get_or-set_other, below_more}
use Rattle.std.proofs.Math.ListN.{set}
use Rattle.av_affine.specs.declared.form.Form.{Form}
use Rattle.av_poly.specs.Rational.{homogeneous, IsWithinBounds, IsBounded, Spans, AreBounds, HasGap}
use Rattle.av_elim.specs.declared.span.Span.{Span}
use Rattle.av_elim.specs.inner.Span.{Tells}
use Rattle.av_elim.specs.inner.Rows.{factor}
use Rattle.av_elim.proofs.Answering.{bounded, spans, no_whole}

-- what stands after some indices
pub record Reached (dim : ℕ) (rows : List (List ℤ)) (i : ℕ) (void : Bool) (low high : List ℤ) : Type 0 where
  pub low_size : length low ≡ 4
  pub high_size : length high ≡ 4
  pub finite : (j : ℕ) → j < i → IsBounded dim rows j
  pub spans : void ≡ false → (j : ℕ) → j < i → Spans dim rows j (factor j low) (factor j high)
  pub rest : (j : ℕ) → i ≤ j → (factor j low ≡ pos 0) × (factor j high ≡ pos 0)
  pub gap : void ≡ true → (j : ℕ) × (j < dim) × ((x : ℤ) → IsWithinBounds dim rows j x → ⊥)

pub zeros : (j : ℕ) → factor j (pos 0 ∷ pos 0 ∷ pos 0 ∷ pos 0 ∷ []) ≡ pos 0
zeros zero = refl
zeros (suc zero) = refl
zeros (suc (suc zero)) = refl
zeros (suc (suc (suc zero))) = refl
zeros (suc (suc (suc (suc j)))) = refl

module _ (dim : ℕ) (rows : List (List ℤ)) (i : ℕ) (void : Bool) (low high : List ℤ) (within : i < dim) (few : dim ≤ 4) (r : Reached dim rows i void low high) (g : Span) (t : Tells dim rows i g)
    (l h : ℤ) (flat : g.flat ≡ true) (e : g.low ≡ Some l) (f : g.high ≡ Some h) where
  all_finite : (j : ℕ) → j < i + 1 → IsBounded dim rows j
  all_finite = below_more (IsBounded dim rows) i r.finite (bounded dim i rows g t l h e f)

  here_low : factor i (set low i l) ≡ l
  here_low = get_or-set_same low i l (pos 0) (omega (arith, r.low_size))

  here_high : factor i (set high i h) ≡ h
  here_high = get_or-set_same high i h (pos 0) (omega (arith, r.high_size))

  rest_more : (j : ℕ) → i + 1 ≤ j → (factor j (set low i l) ≡ pos 0) × (factor j (set high i h) ≡ pos 0)
  rest_more j k =
      let a = get_or-set_other low i j l (pos 0) (λ q. omega arith) in
      let b = get_or-set_other high i j h (pos 0) (λ q. omega arith) in
      let z = r.rest j (omega arith) in
      (a ∙ z.0, b ∙ z.1)

  pub next_void : h <ℤ l → Reached dim rows (i + 1) true (set low i l) (set high i h)
  next_void o = record {
    low_size = length-set low i l ∙ r.low_size;
    high_size = length-set high i h ∙ r.high_size;
    finite = all_finite;
    spans = λ e. absurd (true≢false e);
    rest = rest_more;
    gap = λ e. (i, within, no_whole dim i rows g t l h e' f o);
  }
    where
      e' : g.low ≡ Some l
      e' = e

  pub next_some : l ≤ℤ h → Reached dim rows (i + 1) void (set low i l) (set high i h)
  next_some o = record {
    low_size = length-set low i l ∙ r.low_size;
    high_size = length-set high i h ∙ r.high_size;
    finite = all_finite;
    spans = λ v. below_more (λ j. Spans dim rows j (factor j (set low i l)) (factor j (set high i h))) i
        (λ j k. let a = get_or-set_other low i j l (pos 0) (λ q. omega arith) in let b = get_or-set_other high i j h (pos 0) (λ q. omega arith) in rw (a, b) (r.spans v j k))
        (rw (here_low, here_high) (spans dim i rows g t l h flat e f o));
    rest = rest_more;
    gap = r.gap;
  }

-- ---- after the last index
module _ (dim i : ℕ) (rows : List Form) (void : Bool) (low high : List ℤ) (some : 0 < dim) (last : i ≡ dim) (r : Reached dim (homogeneous rows) i void low high) where
  pub gap_left : void ≡ true → HasGap (record { dim = dim; rows = rows })
  gap_left e = let g = r.gap e in record { bounded = λ j l. r.finite j (omega arith); gap = g.0; within = g.1; no_whole = g.2 }

  pub all_bounds : void ≡ false → AreBounds (record { dim = dim; rows = rows }) (record { low = low; high = high })
  all_bounds e = record {
    point = let w = (r.spans e 0 (omega arith)).low_within in (w.0, w.1, w.2);
    spans = λ j l. r.spans e j (omega arith);
    rest = λ j l. r.rest j (omega arith);
  }
