-- The set of a body, made from the normalised rows of its holder.
use Rattle.std.proofs.Common.{◌≡◌, ◌≤◌, ◌^◌, ℕ, List, [], ◌∷◌, length, subst, sym, ap₂}
use Rattle.av_affine.specs.declared.form.Form.{Form}
use Rattle.av_affine.specs.declared.map.Map.{Map}
use Rattle.av_affine.specs.Maps.{greatest_coefficient, greatest_constant}
use Rattle.av_poly.specs.Points.{Set}
use Rattle.av_poly.specs.Normal.{AreNormalised}
use Rattle.av_flat.specs.Quantities.{of_set}
use Rattle.av_normal.specs.declared.fault.NormalFault.{NormalFault}
use Rattle.av_normal.specs.declared.fault.NormalFault.TheVariants as fault
use Rattle.av_normal.specs.Searches.{IsNarrow, IsWideOne, IsWide}
use Rattle.av_normal.specs.inner.ReductionSets.{inner_of, IsFoldable}
use Rattle.av_normal.proofs.NormalisedBefore.{normalised_before}
use Rattle.av_normal.proofs.Once.{narrow_within}
use Rattle.av_normal.proofs.Searching.{wide_here}

pub same_set : (a b : Set) → a.dim ≡ b.dim → a.rows ≡ b.rows → a ≡ b
same_set a b p q = ap₂ (λ dim rows. record { dim = dim; rows = rows }) p q

module _ (n : ℕ) (holder : List Form) (m : Map) (set : Set) (h : IsFoldable n m set) (rows : List Form) (a : AreNormalised n rows holder) where
  pub early : (out : List Form) → AreNormalised m.from (inner_of m holder set).rows out → AreNormalised m.from (inner_of m rows set).rows out
  early out b = normalised_before m h.projection h.few rows holder set.rows out (subst (λ (k : ℕ). AreNormalised k rows holder) (sym h.results) a) b

  pub narrow_inner : (out : List Form) → AreNormalised m.from (inner_of m holder set).rows out → greatest_coefficient out ≤ 1024 → greatest_constant out ≤ 2 ^ 20 → length out ≤ 20
      → IsNarrow (of_set (inner_of m rows set))
  narrow_inner out b p q r = narrow_within (inner_of m rows set) out (early out b) p q r

  pub wide_inner : (f : NormalFault) → IsWideOne (of_set (inner_of m holder set)) f → IsWide (of_set (inner_of m rows set) ∷ []) f
  wide_inner f w = wide_here (of_set (inner_of m rows set)) [] f (go f w)
    where
      go : (f : NormalFault) → IsWideOne (of_set (inner_of m holder set)) f → IsWideOne (of_set (inner_of m rows set)) f
      go (fault.Limit kind k) w = (w.0, early w.0 w.1, w.2)
      go (fault.Pieces k) w = absurd w
      go (fault.Unbounded name) w = absurd w
      go fault.Memory w = absurd w
