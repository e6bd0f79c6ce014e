-- Whole points among the rational ones.
use Rattle.std.proofs.Common.{ℕ, arith, ℤ, pos, List, [], ◌∷◌}
use Rattle.std.proofs.lemmas.Int.{ints}
use Rattle.av_affine.specs.declared.form.Form.{Form}
use Rattle.av_poly.specs.Points.{Set, Has, Holds}
use Rattle.av_poly.specs.Rational.{homogeneous, Satisfies, IsRationalPoint, IsWithinBounds, entry_of}

satisfies : (rows : List Form) (z : List ℤ) → Holds rows z → Satisfies (homogeneous rows) (pos 1 ∷ z)
satisfies [] z h = tt
satisfies (row ∷ rows) z h = let k = h.0 in (omega (arith, ints, k), satisfies rows z h.1)

-- a point of a set is a rational point of its rows
pub point_is_rational : (set : Set) (z : List ℤ) → Has set z → IsRationalPoint set.dim (homogeneous set.rows) (pos 1) z
point_is_rational set z h = record { size = h.dimension; positive = omega (arith, ints); satisfies = satisfies set.rows z h.holds }

-- and so each entry lies between the rational bounds of its index
pub point_within_bounds : (set : Set) (z : List ℤ) (index : ℕ) → Has set z → IsWithinBounds set.dim (homogeneous set.rows) index (entry_of z index)
point_within_bounds set z index h = (pos 1, z, point_is_rational set z h, omega (arith, ints))
