-- The modules of a program: a kind for each shape, an instance for each cell, and the top module, which counts where a kind does.
use Rattle.std.specs.Prelude.{◌≡◌, ℕ, suc, ◌+◌, ◌<◌, ◌≤◌, ◌^◌, Bool, List, [], ◌∷◌, ◌++◌, Some, slice_get, get_or, length, codes, if◌then◌else◌}
use Rattle.std.specs.List.{list_any, AllByRecursion}
use Rattle.av_net.specs.declared.netlist.Module.{Module}
use Rattle.av_net.specs.declared.plan.CellKind.{CellKind}
use Rattle.av_net.specs.declared.plan.Instance.{Instance}
use Rattle.av_kinds.specs.declared.counter.Counter.{Counter}
use Rattle.av_kinds.specs.declared.planning.Modules.{Modules}
use Rattle.av_kinds.specs.declared.program.CellLanes.{CellLanes}
use Rattle.av_kinds.specs.Programs.{Program, lanes_of}
use Rattle.av_kinds.specs.Names.{input_name, output_name, labels}
use Rattle.av_kinds.specs.Counters.{counter_width, counter_name}
use Rattle.av_kinds.specs.Tops.{port, numbered_ports, output_widths, output_drives, lane_wires, lane_registers, lane_steps}
use Rattle.av_kinds.specs.inner.Counts.{counter_wires, counter_drives, counter_step}
use Rattle.av_kinds.specs.inner.Shapes.{LaneShape, IsKindShape, SuitLanes}
use Rattle.av_kinds.specs.inner.Ordered.{IsOrdered}
use Rattle.av_kinds.specs.inner.Kinds.{counts, kind_by}
use Rattle.av_kinds.specs.inner.Instances.{instance_by}

abbrev pub top_by : Counter → Bool → Program → Module
top_by counter counts program = record {
  name = codes "array";
  inputs = numbered_ports input_name 0 program.inputs;
  outputs = numbered_ports output_name 0 (output_widths program);
  wires = lane_wires (labels program) 0 program.lanes ++ (if counts then counter_wires counter else []);
  registers = lane_registers (labels program) 0 program.lanes ++ (if counts then port counter_width (counter_name counter) ∷ [] else []);
  drives = output_drives (labels program) 0 program.outputs ++ (if counts then counter_drives counter else []);
  steps = lane_steps (labels program) 0 program.lanes ++ (if counts then counter_step counter ∷ [] else []);
}

-- the shape has room for each cell of the kind
abbrev pub IsShapeOf : Program → ℕ → List LaneShape → Type 0
IsShapeOf program kind shape = (p : ℕ) (own : CellLanes) → slice_get program.cells p ≡ Some own → slice_get program.kinds p ≡ Some kind → SuitLanes shape (lanes_of program own)

-- kinds can be made of all these
abbrev pub AreKindShapes : List (List LaneShape) → Type 0
AreKindShapes shapes = AllByRecursion IsKindShape shapes

-- the shapes of the kinds of a program
pub record AreShapesOf (program : Program) (shapes : List (List LaneShape)) : Type 0 where
  pub each : AreKindShapes shapes
  pub suit : (k : ℕ) (shape : List LaneShape) → slice_get shapes k ≡ Some shape → IsShapeOf program k shape
  pub all : (p k : ℕ) → slice_get program.kinds p ≡ Some k → k < length shapes
  pub ordered : AllByRecursion IsOrdered shapes

-- each number that stands among these is below the count, and so many stand there
pub record IsKindCount (kinds : List ℕ) (count : ℕ) : Type 0 where
  pub below : (p k : ℕ) → slice_get kinds p ≡ Some k → k < count
  pub reached : 0 < count → (p : ℕ) × (k : ℕ) × (slice_get kinds p ≡ Some k) × (suc k ≡ count)

-- a kind for each shape, with numbers from n on
abbrev pub kinds_by : ℕ → List (List LaneShape) → List CellKind
kinds_by n [] = []
kinds_by n (shape ∷ shapes) = kind_by n shape ∷ kinds_by (n + 1) shapes

-- no more ports and wires than lists have items
abbrev pub IsSmallKind : CellKind → Type 0
IsSmallKind kind = (length kind.inputs ≤ 2 ^ 30) × (length kind.outputs ≤ 2 ^ 30) × (length kind.wires ≤ 2 ^ 30)

-- an instance for each cell, with numbers from p on
abbrev pub instances_by : Counter → Program → List (List LaneShape) → ℕ → List CellLanes → List ℕ → List Instance
instances_by counter program shapes p [] kinds = []
instances_by counter program shapes p (own ∷ cells) [] = []
instances_by counter program shapes p (own ∷ cells) (k ∷ kinds) =
    instance_by (labels program) (counter_name counter) p k own.first (get_or shapes k []) (lanes_of program own) ∷ instances_by counter program shapes (p + 1) cells kinds

-- a kind for each shape, an instance for each cell, and the top module
pub record AreModulesOf (counter : Counter) (program : Program) (m : Modules) : Type 0 where
  pub shapes : List (List LaneShape)
  pub are_shapes : AreShapesOf program shapes
  pub kinds_are : m.kinds ≡ kinds_by 0 shapes
  pub instances_are : m.instances ≡ instances_by counter program shapes 0 program.cells program.kinds
  pub top_is : m.top ≡ top_by counter (list_any counts shapes) program
