-- Declared domains with an end and without.
use Rattle.std.proofs.Common.{◌≢◌, ℕ, ◌<◌, ℤ, pos, List, ◌∷◌, Option, Some, None, inr, sym, ◌∙◌, ⊎_elim, arith}
use Rattle.std.specs.List.{Any}
use Rattle.std.proofs.lemmas.List.{get_or_default}
use Rattle.av_affine.specs.declared.form.Form.{Form}
use Rattle.av_poly.specs.declared.poly.Bounds.{Bounds}
use Rattle.av_poly.specs.Normal.{AreNormalised}
use Rattle.av_poly.specs.Rational.{homogeneous, IsRationalRay, IsBounded}
use Rattle.av_elim.proofs.Excluding.{ray_of_endless}
use Rattle.av_flat.specs.Trees.{Variable}
use Rattle.av_normal.specs.declared.fault.NormalFault.{NormalFault}
use Rattle.av_normal.specs.declared.fault.NormalFault.TheVariants as fault
use Rattle.av_normal.specs.Extents.{IsEndlessOf}
use Rattle.av_normal.specs.Domains.{IsDeclaredExtent, HasEnd, IsEndlessOne, IsEndless}
use Rattle.av_normal.proofs.Alike.{some_point, ray_alike}

-- where each index is bounded there is no ray
no_ray : (dim : ℕ) (rows : List (List ℤ)) → ((index : ℕ) → index < dim → IsBounded dim rows index) → (d : List ℤ) → IsRationalRay dim rows d → ⊥
no_ray dim rows f d h = go h.1
  where
    go : Any (λ x. x ≢ pos 0) d → ⊥
    go (j, x, l, e, n) =
        let size = h.0.size in
        n (sym e ∙ get_or_default d j x (pos 0) l ∙ (f j (omega (arith, l, size))).no_ray d h.0)

pub has_end : (v : Variable) (extent : Option Bounds) → IsDeclaredExtent v extent → HasEnd v
has_end v None (rows, s, none, four) u =
    let dim = v.domain.dim in
    ⊎_elim
    (λ n. n (some_point dim v.domain.rows rows u.rows s u.normalised u.point))
    (λ g. no_ray dim (homogeneous rows) g.bounded u.ray (ray_alike dim v.domain.rows rows u.rows s u.normalised u.ray u.is_ray))
    none
has_end v (Some b) (rows, s, e, four) u =
    let dim = v.domain.dim in
    no_ray dim (homogeneous rows) (λ i l. (e.0.spans i l).bounded) u.ray (ray_alike dim v.domain.rows rows u.rows s u.normalised u.ray u.is_ray)

pub without_end : (v : Variable) (rows : List Form) → AreNormalised v.domain.dim v.domain.rows rows → (f : NormalFault)
    → IsEndlessOf v.name (record { dim = v.domain.dim; rows = rows }) f → IsEndlessOne v f
without_end v rows s (fault.Unbounded name) h =
    let r = ray_of_endless v.domain.dim h.1 (homogeneous rows) h.2.within h.2.endless in
    (h.0, record { rows = rows; normalised = s; point = h.2.point; ray = r.0; is_ray = r.1 })
without_end v rows s (fault.Pieces n) h = absurd h
without_end v rows s (fault.Limit kind n) h = absurd h
without_end v rows s fault.Memory h = tt

pub endless_after : (v : Variable) (vs : List Variable) (f : NormalFault) → HasEnd v → IsEndless vs f → IsEndless (v ∷ vs) f
endless_after v vs (fault.Unbounded name) e h = inr (e, h)
endless_after v vs (fault.Pieces n) e h = absurd h
endless_after v vs (fault.Limit kind n) e h = absurd h
endless_after v vs fault.Memory e h = tt
