-- Plans of arrays: what is promised of the plan that is built of a timed system and its array (own form, after the usual picture of a
-- systolic array: H. T. Kung 1982).
use Rattle.std.specs.Prelude.{◌≡◌, ℕ, ◌+◌, ◌*◌, ◌<◌, List, All, Some, slice_get}
use Rattle.av_tree.specs.Points.{Point}
use Rattle.av_tree.specs.Values.{Assignment}
use Rattle.av_flat.specs.declared.timed.Timed.{Timed}
use Rattle.av_flat.specs.Trees.{Variable, view_system}
use Rattle.av_flat.specs.Nodes.{nodes}
use Rattle.av_flat.specs.OneSolution.{AreInputs, HasOneSolution}
use Rattle.av_flat.specs.Solutions.{IsSolution}
use Rattle.av_net.specs.declared.netlist.Port.{Port}
use Rattle.av_net.specs.declared.design.Design.{Design}
use Rattle.av_net.specs.declared.plan.Plan.{Plan}
use Rattle.av_net.specs.Designs.{IsSoundPlan}
use Rattle.av_net.specs.Flat.{flat_module, flat_of}
use Rattle.av_net.specs.Presented.{IsPresentable}
use Rattle.av_net.specs.Shown.{Shows}
use Rattle.av_space.specs.declared.cells.Cell.{Cell}
use Rattle.av_space.specs.declared.cells.Cells.{Cells}
use Rattle.av_space.specs.Coordinates.{Placing, ArePlacings}
use Rattle.av_space.specs.Occupancy.{Computes}
use Rattle.av_space.specs.Listings.{value_name}
use Rattle.av_space.specs.Whole.{HasWholeListing}
use Rattle.av_kinds.specs.declared.counter.Counter.{Counter}
use Rattle.av_kinds.specs.declared.counter.Counter.TheVariants.{Cycles}
use Rattle.av_kinds.specs.Counters.{number_count}
use Rattle.av_build.specs.ArrayForm.{IsArrayForm, IsLinked}
use Rattle.av_build.specs.Shared.{IsShared}
use Rattle.av_build.specs.Later.{later}

-- no cell computes two points in one cycle
abbrev pub HasOnePoint : (t : Timed) (a : Cells) (d : Design) → HasWholeListing t a d → Type 0
HasOnePoint t a d carries =
    (p c m n : ℕ) (y z : Point) → Computes (view_system t.flat) carries.whole.list.placings a.cells p c m y → Computes (view_system t.flat) carries.whole.list.placings a.cells p c n z
    → (m ≡ n) × (y ≡ z)

-- each wire that is the value wire of a cell is as wide as the words of the cell's variable
abbrev pub HasValueWidths : Timed → Cells → Design → Type 0
HasValueWidths t a d =
    All (λ (x : Port). (p : ℕ) (cell : Cell) (v : Variable) → slice_get a.cells p ≡ Some cell → slice_get (nodes (view_system t.flat)) cell.node ≡ Some v → x.name ≡ value_name p → x.width.bits ≡ v.width) d.module.wires

-- a sound plan whose flat design has the listing and ports of the array, with value wires of the right width, is in array form and reads other
-- cells over links alone; like cells of it are instances of one kind
pub record IsArrayPlan (t : Timed) (a : Cells) (counter : Counter) (plan : Plan) : Type 0 where
  pub sound : IsSoundPlan plan
  pub carries : HasWholeListing t a (flat_of plan)
  pub widths : HasValueWidths t a (flat_of plan)
  pub one_point : HasOnePoint t a (flat_of plan) carries
  pub form : IsArrayForm counter (view_system t.flat) carries.whole.list.placings a.cells a.inputs (flat_module plan)
  pub linked : IsLinked a.cells a.links (flat_module plan)
  pub shared : IsShared (view_system t.flat) t.helpers carries.whole.list.placings a.cells a.links plan

-- ---- one problem

-- there is one solution for the input, which can be presented, and the design shows the solution
pub record ShowsSolution (t : Timed) (d : Design) (x : Assignment) : Type 0 where
  pub one : HasOneSolution (view_system t.flat) x
  pub presentable : IsPresentable d x
  pub shows : Shows d x one.solution

-- the plan counts cycles, and its flat design shows the solution for every input
pub record IsPlanOf (t : Timed) (a : Cells) (plan : Plan) : Type 0 where
  pub is_plan : IsArrayPlan t a Cycles plan
  pub shows : (x : Assignment) → AreInputs (view_system t.flat) x → ShowsSolution t (flat_of plan) x

-- ---- problem after problem

-- no two computations of a cell are as many cycles apart as the counter has numbers
abbrev pub IsWithinCount : Timed → Cells → Counter → Type 0
IsWithinCount t a counter =
    (placings : List Placing) → ArePlacings t.times placings → (p c d m n : ℕ) (y z : Point) → Computes (view_system t.flat) placings a.cells p c m y → Computes (view_system t.flat) placings a.cells p d n z
    → d < c + number_count counter

-- the flat design shows each solution for the inputs, also where both come some times as many cycles later as the counter has numbers
pub record IsCountingPlan (t : Timed) (a : Cells) (counter : Counter) (plan : Plan) : Type 0 where
  pub is_plan : IsArrayPlan t a counter plan
  pub shows : (k : ℕ) (x u : Assignment) → IsSolution (view_system t.flat) x u → Shows (later (k * number_count counter) (flat_of plan)) x u
