-- The boxes of declared domains, as their bounds. Only private contracts cite this.
use Rattle.std.specs.Prelude.{◌≡◌, ℕ, ℤ, List, Option, Some, None, Bool, true, false}
use Rattle.av_affine.specs.Numbers.{AtMost}
use Rattle.av_poly.specs.declared.poly.Bounds.{Bounds}
use Rattle.av_poly.specs.Points.{Set, Has}
use Rattle.av_poly.specs.Rational.{AreBounds, IsFirstEndless, HasNoBounds}
use Rattle.av_poly.specs.Search.{IsBetween}
use Rattle.av_tree.specs.Trees.{Text}
use Rattle.av_normal.specs.declared.fault.NormalFault.{NormalFault}
use Rattle.av_normal.specs.declared.fault.NormalFault.TheVariants as fault
use Rattle.av_normal.specs.BoxLimits.{IsOverLimit}

-- the bounds of the set, between which its points lie, or none where it has none
abbrev pub IsExtent : Set → Option Bounds → Type 0
IsExtent set None = HasNoBounds set
IsExtent set (Some b) = AreBounds set b × ((z : List ℤ) → Has set z → IsBetween b.low b.high z)

-- the set is unbounded, and the fault has this name; or memory was wanted
abbrev pub IsEndlessOf : Text → Set → NormalFault → Type 0
IsEndlessOf name set (fault.Unbounded n) = (n ≡ name) × (index : ℕ) × IsFirstEndless set index
IsEndlessOf name set (fault.Pieces n) = ⊥
IsEndlessOf name set (fault.Limit kind n) = ⊥
IsEndlessOf name set fault.Memory = Unit {0}

-- a coordinate of the box, or its number of points, is above its limit, coordinates first
abbrev pub IsOverBounds : Bounds → NormalFault → Type 0
IsOverBounds b (fault.Limit kind n) = IsOverLimit b kind n
IsOverBounds b (fault.Pieces n) = ⊥
IsOverBounds b (fault.Unbounded name) = ⊥
IsOverBounds b fault.Memory = ⊥

-- ---- pieces with a point

-- small bounds, between which the points of the set lie; or it has no point
abbrev pub IsReach : Set → Option Bounds → Type 0
IsReach set None = (z : List ℤ) → Has set z → ⊥
IsReach set (Some b) = AtMost 4095 b.low × AtMost 4095 b.high × ((z : List ℤ) → Has set z → IsBetween b.low b.high z)

-- whether the set has a point
abbrev pub SaysPoint : Set → Bool → Type 0
SaysPoint set true = (z : List ℤ) × Has set z
SaysPoint set false = (z : List ℤ) → Has set z → ⊥
