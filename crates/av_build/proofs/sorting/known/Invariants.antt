use Rattle.std.proofs.Common.{◌≡◌, ℕ, ◌<◌, Some}
use Rattle.std.specs.Prelude.{slice_get}
use Rattle.av_build.specs.declared.blueprint.CellPlan.{CellPlan}
use Rattle.av_build.specs.inner.Lanes.{HaveSamePieces}
use Rattle.av_build.proofs.sorting.known.Given as goal

-- no kind before it has the pieces of the cell
abbrev pub invariant-loop-kind : goal.invariant-loop-kind
invariant-loop-kind l = (k first : ℕ) (other : CellPlan) → k < l.kind → slice_get l.firsts k ≡ Some first → slice_get l.cells first ≡ Some other → HaveSamePieces other.pieces.spots l.cell.pieces.spots → ⊥
