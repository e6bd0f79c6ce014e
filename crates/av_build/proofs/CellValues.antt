-- Each cell of an array computes, and its value has a lane, with the name of the cell's value.
use Rattle.std.proofs.Common.{◌≡◌, ℕ, zero, suc, ◌+◌, ◌<◌, ◌≤◌, List, length, refl, ap, ◌∙◌, arith, Some}
use Rattle.std.specs.Prelude.{slice_get}
use Rattle.std.specs.List.{AllByRecursion, range_with_len}
use Rattle.std.proofs.lemmas.List.Elements.{All-from_recursion, All-filter}
use Rattle.av_base.proofs.Lists.{there_is, all_at}
use Rattle.av_tree.specs.Points.{Point}
use Rattle.av_flat.specs.Trees.{Variable, FlatSystem}
use Rattle.av_flat.specs.Nodes.{nodes}
use Rattle.av_space.specs.declared.cells.Cell.{Cell}
use Rattle.av_space.specs.Occupancy.{IsUsed, AreCells}
use Rattle.av_space.specs.Ports.{is_output_cell, output_cells}
use Rattle.av_kinds.specs.declared.program.CellLanes.{CellLanes}
use Rattle.av_kinds.specs.Programs.{Lane, Program}
use Rattle.av_kinds.specs.Names.{value_name, lane_value, label_in, labels}
use Rattle.av_history.specs.Performing.{Array, ComputesOn, Lanes}
use Rattle.av_build.specs.inner.Programmed.{IsValueLane, IsProgramFor}

-- a computation of the cell, and the lane of its value
pub record HasValue (a : Array) (count : ℕ → ℕ) (lanes : Lanes) (program : Program) (p : ℕ) : Type 0 where
  pub cycle : ℕ
  pub node : ℕ
  pub point : Point
  pub computes : ComputesOn a p cycle node point
  pub variable : Variable
  pub is_variable : slice_get (nodes a.system) node ≡ Some variable
  pub own : CellLanes
  pub is_own : slice_get program.cells p ≡ Some own
  pub lane : Lane
  pub is_lane : slice_get program.lanes (lanes.of_value p) ≡ Some lane
  pub is_value : IsValueLane a count lanes own.first p node variable lane

pub value_of : (a : Array) (count : ℕ → ℕ) (lanes : Lanes) (program : Program) → IsProgramFor a count lanes program → AreCells a.system a.times a.cells → (p : ℕ) → p < length a.cells → HasValue a count lanes program p
value_of a count lanes program g cells p lt =
    let cell = there_is a.cells p lt in
    let used = all_at (IsUsed a.system a.times) a.cells p cell.0 cells.each cell.1 in
    let computation = used.3.computation in
    let computes : ComputesOn a p used.0 used.1 used.2 = record { cell = cell.0; is_cell = cell.1; stands = used.3 } in
    let x = g.values p used.0 used.1 used.2 computation.variable computes computation.is in
    record {
      cycle = used.0;
      node = used.1;
      point = used.2;
      computes = computes;
      variable = computation.variable;
      is_variable = computation.is;
      own = x.0;
      is_own = x.1;
      lane = x.2.0;
      is_lane = x.2.1;
      is_value = x.2.2;
    }

-- ---- names

-- the name of the lane of a cell's value
pub value_label : (program : Program) (q p : ℕ) (lane : Lane) → slice_get program.lanes q ≡ Some lane → lane.home ≡ p → lane.rank ≡ 0 → (labels program).value q ≡ value_name p
value_label program q p lane is home rank = ap (label_in (lane_value program.stride)) is ∙ rw (rank, home) refl

pub value_labelled : (a : Array) (count : ℕ → ℕ) (lanes : Lanes) (program : Program) → IsProgramFor a count lanes program → AreCells a.system a.times a.cells → (p : ℕ) → p < length a.cells
    → (labels program).value (lanes.of_value p) ≡ value_name p
value_labelled a count lanes program g cells p lt =
    let x = value_of a count lanes program g cells p lt in
    value_label program (lanes.of_value p) p x.lane x.is_lane x.is_value.home_is x.is_value.rank_is

-- ---- outputs

range_below : (from number limit : ℕ) → from + number ≤ limit → AllByRecursion (λ (x : ℕ). x < limit) (range_with_len from number)
range_below from zero limit le = tt
range_below from (suc number) limit le = (omega (arith, le), range_below (from + 1) number limit (omega (arith, le)))

-- an output's cell is one of the cells
pub output_within : (s : FlatSystem) (cells : List Cell) (k p : ℕ) → slice_get (output_cells s cells) k ≡ Some p → p < length cells
output_within s cells k p is =
    let all = All-from_recursion (λ (x : ℕ). x < length cells) (range_with_len 0 (length cells)) (range_below 0 (length cells) (length cells) (omega arith)) in
    all_at (λ (x : ℕ). x < length cells) (output_cells s cells) k p (All-filter (is_output_cell s cells) (λ (x : ℕ). x < length cells) (range_with_len 0 (length cells)) all) is
