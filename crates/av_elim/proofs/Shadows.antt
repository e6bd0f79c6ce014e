-- Steps one after another, and rows with one index left.
use Rattle.std.proofs.Common.{◌≡◌, ◌≢◌, ℕ, zero, suc, ◌<◌, ◌≤◌, arith, ℤ, pos, ◌+ℤ◌, ◌*ℤ◌, ◌≤ℤ◌, List, [], ◌∷◌, length, refl, ap, sym, ◌∙◌, subst, get_or-set_other, length-set}
use Rattle.std.proofs.Math.ListN.{set}
use Rattle.std.proofs.lemmas.Int.{ints}
use Rattle.av_affine.proofs.Ring.{times_times}
use Rattle.av_affine.proofs.Order.{positive_product, product_nonneg}
use Rattle.av_elim.proofs.Lift.{factor_scale, length_scale}
use Rattle.av_affine.specs.Numbers.{dot}
use Rattle.av_elim.specs.inner.Rows.{scale, factor, Projects, Shadow, StandsFor}

pub shadow_none : (n k : ℕ) (rows out : List (List ℤ)) → StandsFor rows out → Shadow n k rows out
shadow_none n k rows out s = record {
  kept = s.kept;
  back = λ v o l h. (pos 1, v, omega (arith, ints), refl, omega (arith, ints), omega (arith, ints), s.back v o h);
}

-- an entry of the scaled point, with another entry written
scaled_other : (i j : ℕ) (s t : ℤ) (v : List ℤ) → i ≢ j → factor i (set (scale s v) j t) ≡ s *ℤ factor i v
scaled_other i j s t v n = get_or-set_other (scale s v) j i t (pos 0) n ∙ factor_scale s v i

-- one place more is projected away
pub shadow_more : (n m k j : ℕ) (rows mid out : List (List ℤ)) → 0 < j → j ≢ k → j < m → n ≤ m → Shadow n k rows mid → Projects j mid out → Shadow m k rows out
shadow_more n m k j rows mid out some apart within more h p = record {
  kept = λ v o r. p.kept v o (h.kept v o r);
  back = λ v o l r.
      let a = p.back v o (omega arith) r in
      let s = a.0 in
      let t = a.1 in
      let w = set (scale s v) j t in
      let e = scaled_other 0 j s t v (λ q. omega arith) in
      let nonneg : pos 0 ≤ℤ factor 0 w = subst (λ (z : ℤ). pos 0 ≤ℤ z) (sym e) (product_nonneg s (factor 0 v) (omega (arith, ints, a.2)) o) in
      let size : length w ≡ length v = length-set (scale s v) j t ∙ length_scale s v in
      let b = h.back w nonneg (omega (arith, size)) a.3 in
      let q = b.0 in (
        q *ℤ s,
        b.1,
        positive_product q s b.2 a.2,
        b.3 ∙ size,
        b.4 ∙ ap (λ z. q *ℤ z) e ∙ sym (times_times q s (factor 0 v)),
        b.5 ∙ ap (λ z. q *ℤ z) (scaled_other k j s t v (λ e. apart (sym e))) ∙ sym (times_times q s (factor k v)),
        b.6,
      );
}

dot_zero : (a y : List ℤ) → ((j : ℕ) → j < length y → factor j a ≡ pos 0) → dot a y ≡ pos 0
dot_zero [] y h = refl
dot_zero (x ∷ a) [] h = refl
dot_zero (x ∷ a) (z ∷ y) h =
    let e : x ≡ pos 0 = h 0 (omega arith) in
    let f = dot_zero a y (λ j i. h (suc j) (omega arith)) in
    rw (e, f) (omega (arith, ints))

dot_one : (a y : List ℤ) (k : ℕ) → k < length y → ((j : ℕ) → j ≢ k → j < length y → factor j a ≡ pos 0) → dot a y ≡ factor k a *ℤ factor k y
dot_one [] y k i h = omega (arith, ints)
dot_one (x ∷ a) [] k i h = absurd (omega arith)
dot_one (x ∷ a) (z ∷ y) zero i h = let f = dot_zero a y (λ j l. h (suc j) (λ e. omega arith) (omega arith)) in rw f (omega (arith, ints))
dot_one (x ∷ a) (z ∷ y) (suc k) i h =
    let e : x ≡ pos 0 = h 0 (λ e. omega arith) (omega arith) in
    let f = dot_one a y k (omega arith) (λ j n l. h (suc j) (λ e. n (omega arith)) (omega arith)) in
    rw (e, f) (omega (arith, ints))

-- a row with the index k alone
pub dot_two : (r v : List ℤ) (k : ℕ) → 0 < k → k < length v → ((j : ℕ) → 0 < j → j ≢ k → j < length v → factor j r ≡ pos 0) → dot r v ≡ factor 0 r *ℤ factor 0 v +ℤ factor k r *ℤ factor k v
dot_two [] v k i l h = omega (arith, ints)
dot_two (x ∷ r) [] k i l h = absurd (omega arith)
dot_two (x ∷ r) (z ∷ v) zero i l h = absurd (omega arith)
dot_two (x ∷ r) (z ∷ v) (suc k) i l h = ap (λ d. x *ℤ z +ℤ d) (dot_one r v k (omega arith) (λ j n m. h (suc j) (omega arith) (λ e. n (omega arith)) (omega arith)))
