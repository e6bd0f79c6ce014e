-- The computations on a cell between the first and the last of them. Only private contracts cite this.
use Rattle.std.specs.Prelude.{◌≡◌, ◌-◌, List, Some, slice_get, length, All}
use Rattle.av_affine.specs.declared.form.Form.{Form}
use Rattle.av_affine.specs.Forms.{IsWithinLimits}
use Rattle.av_poly.specs.Points.{Set, HoldsAt}
use Rattle.av_tree.specs.Points.{Point}
use Rattle.av_depend.specs.SetPoints.{IsPointOf}
use Rattle.av_space.specs.declared.layout.Slot.{Slot}

-- a row that holds at neither end does not hold at the point
abbrev pub StandsBetween : Point → Point → Point → Type 0
StandsBetween first last z = (row : Form) → (HoldsAt row first → ⊥) → (HoldsAt row last → ⊥) → HoldsAt row z → ⊥

abbrev pub AreBetweenEnds : List Slot → Type 0
AreBetweenEnds slots =
    (first last : Slot) → slice_get slots 0 ≡ Some first → slice_get slots (length slots - 1) ≡ Some last → All (λ t. StandsBetween first.point last.point t.point) slots

-- the computations on a cell, and the set of a piece of the cell's node
pub record AreOfNode (set : Set) (slots : List Slot) : Type 0 where
  pub points : All (λ t. IsPointOf set t.point) slots
  pub rows : All IsWithinLimits set.rows
  pub ends : AreBetweenEnds slots
