-- The limits of a box: its coordinates, and its number of points (own).
use Rattle.std.specs.Prelude.{◌≡◌, ℕ, ◌<◌, ◌≤◌, ◌≤ℤ◌, pos, ◌++◌, ◌⊎◌}
use Rattle.av_affine.specs.Numbers.{greatest}
use Rattle.av_poly.specs.declared.poly.Bounds.{Bounds}
use Rattle.av_flat.specs.declared.quantity.Quantity.{Quantity}
use Rattle.av_flat.specs.declared.quantity.Quantity.TheVariants as quantity
use Rattle.av_flat.specs.Sets.{box_size}

-- no coordinate above 4,095, and at most 65,536 points
abbrev pub IsSmallBox : Bounds → Type 0
IsSmallBox b = (greatest (b.low ++ b.high) ≤ 4095) × (box_size b.low b.high ≤ℤ pos 65536)

-- this quantity of the box is n and above its limit, coordinates first
abbrev pub IsOverLimit : Bounds → Quantity → ℕ → Type 0
IsOverLimit b kind n =
    ((kind ≡ quantity.Coordinate) × (n ≡ greatest (b.low ++ b.high)) × (4095 < n))
    ⊎ ((kind ≡ quantity.BoxSize) × (greatest (b.low ++ b.high) ≤ 4095) × (pos n ≡ box_size b.low b.high) × (65536 < n))
