-- The step on rows.
use Rattle.std.proofs.Common.{◌≡◌, ℕ, zero, suc, ◌<◌, arith, ℤ, pos, ◌+ℤ◌, ◌*ℤ◌, ◌≤ℤ◌, ◌<ℤ◌, List, [], ◌∷◌, length, get_or, refl, ap, sym, ◌∙◌, subst}
use Rattle.std.proofs.Math.ListN.{set}
use Rattle.std.proofs.lemmas.Int.{ints}
use Rattle.av_affine.proofs.Ring.{ring, cube}
use Rattle.av_elim.proofs.Core.{core, Flat, Pairs}
use Rattle.av_affine.specs.Numbers.{dot}
use Rattle.av_poly.specs.Rational.{Satisfies}
use Rattle.av_elim.specs.inner.Rows.{scale, combine, factor}
use Rattle.av_base.proofs.Lists.{each_weaker}

-- the entry at k apart from the rest
pub dot_set : (r v : List ℤ) (k : ℕ) (t : ℤ) → k < length v → dot r (set v k t) ≡ factor k r *ℤ t +ℤ dot r (set v k (pos 0))
dot_set [] v k t h = omega (arith, ints)
dot_set (x ∷ r) [] k t h = absurd (omega arith)
dot_set (x ∷ r) (y ∷ v) zero t h = omega (arith, ints)
dot_set (x ∷ r) (y ∷ v) (suc k) t h = omega (arith, ints, dot_set r v k t (omega arith))

pub dot_scale : (r v : List ℤ) (s : ℤ) → dot r (scale s v) ≡ s *ℤ dot r v
dot_scale [] v s = omega (arith, ints)
dot_scale (x ∷ r) [] s = omega (arith, ints)
dot_scale (x ∷ r) (y ∷ v) s = rw (dot_scale r v s) (simp ring (omega (arith, ints, cube)))

pub dot_scale' : (r v : List ℤ) (s : ℤ) → dot (scale s r) v ≡ s *ℤ dot r v
dot_scale' [] v s = omega (arith, ints)
dot_scale' (x ∷ r) [] s = omega (arith, ints)
dot_scale' (x ∷ r) (y ∷ v) s = rw (dot_scale' r v s) (simp ring (omega (arith, ints, cube)))

pub set_scale : (v : List ℤ) (k : ℕ) (s : ℤ) → set (scale s v) k (pos 0) ≡ scale s (set v k (pos 0))
set_scale [] zero s = refl
set_scale [] (suc k) s = refl
set_scale (y ∷ v) zero s = let e : pos 0 ≡ s *ℤ pos 0 = omega (arith, ints) in ap (λ (z : ℤ). z ∷ scale s v) e
set_scale (y ∷ v) (suc k) s = ap (λ z. (s *ℤ y) ∷ z) (set_scale v k s)

pub length_scale : (s : ℤ) (v : List ℤ) → length (scale s v) ≡ length v
length_scale s [] = refl
length_scale s (x ∷ v) = ap suc (length_scale s v)

-- where rows without index k hold and each pair leaves room, some multiple with some entry at k is a point of the rows
pub complete : (rows : List (List ℤ)) (v : List ℤ) (k : ℕ) → k < length v → Flat (factor k) (λ r. dot r (set v k (pos 0))) rows → Pairs (factor k) (λ r. dot r (set v k (pos 0))) rows
    → (s : ℤ) × (t : ℤ) × (pos 0 <ℤ s) × Satisfies rows (set (scale s v) k t)
complete rows v k h flat pairs =
    let c = core (factor k) (λ r. dot r (set v k (pos 0))) rows flat pairs in
    let s = c.0 in
    let t = c.1 in (
      s,
      t,
      c.2,
      each_weaker (λ r. pos 0 ≤ℤ (factor k r *ℤ t +ℤ s *ℤ dot r (set v k (pos 0)))) (λ r. pos 0 ≤ℤ dot r (set (scale s v) k t))
          (λ r x. subst (λ (z : ℤ). pos 0 ≤ℤ z) (sym (dot_set r (scale s v) k t (omega (arith, length_scale s v)) ∙ ap (λ z. factor k r *ℤ t +ℤ z) (ap (dot r) (set_scale v k s) ∙ dot_scale r (set v k (pos 0)) s))) x) rows c.3,
    )

-- a combination at v
pub dot_combine : (f g : ℤ) (p n v : List ℤ) → dot (combine f g p n) v ≡ f *ℤ dot n v +ℤ g *ℤ dot p v
dot_combine f g [] n v = rw (dot_scale' n v f) (omega (arith, ints))
dot_combine f g (x ∷ p) [] v = rw (dot_scale' (x ∷ p) v g) (omega (arith, ints))
dot_combine f g (x ∷ p) (y ∷ n) [] = omega (arith, ints)
dot_combine f g (x ∷ p) (y ∷ n) (z ∷ v) = rw (dot_combine f g p n v) (simp ring (omega (arith, ints, cube)))

pub factor_scale : (s : ℤ) (r : List ℤ) (k : ℕ) → factor k (scale s r) ≡ s *ℤ factor k r
factor_scale s [] k = omega (arith, ints)
factor_scale s (x ∷ r) zero = refl
factor_scale s (x ∷ r) (suc k) = factor_scale s r k

pub factor_combine : (f g : ℤ) (p n : List ℤ) (k : ℕ) → factor k (combine f g p n) ≡ f *ℤ factor k n +ℤ g *ℤ factor k p
factor_combine f g [] n k = omega (arith, ints, factor_scale f n k)
factor_combine f g (x ∷ p) [] k = omega (arith, ints, factor_scale g (x ∷ p) k)
factor_combine f g (x ∷ p) (y ∷ n) zero = refl
factor_combine f g (x ∷ p) (y ∷ n) (suc k) = factor_combine f g p n k

-- a row at v, the entry at k apart
pub dot_at : (r v : List ℤ) (k : ℕ) → k < length v → dot r v ≡ factor k r *ℤ get_or v k (pos 0) +ℤ dot r (set v k (pos 0))
dot_at [] v k h = omega (arith, ints)
dot_at (x ∷ r) [] k h = absurd (omega arith)
dot_at (x ∷ r) (y ∷ v) zero h = omega (arith, ints)
dot_at (x ∷ r) (y ∷ v) (suc k) h = omega (arith, ints, dot_at r v k (omega arith))
