-- What is promised of the modules of a program: a sound plan with the program's ports, whose runs are histories of it.
use Rattle.std.specs.Prelude.{◌≡◌, ℕ, suc, ◌-◌, ◌<◌, Some, slice_get, All, Contains, codes, length, map}
use Rattle.std.specs.List.{range_with_len}
use Rattle.av_net.specs.declared.design.Listing.{Listing}
use Rattle.av_net.specs.declared.plan.Plan.{Plan}
use Rattle.av_net.specs.declared.plan.Instance.{Instance}
use Rattle.av_net.specs.Names.{names_of, wire_names}
use Rattle.av_net.specs.Clocked.{Stream, Run, IsRun}
use Rattle.av_net.specs.Listed.{MayBeListed}
use Rattle.av_net.specs.Flat.{flat_module}
use Rattle.av_net.specs.Designs.{IsSoundPlan}
use Rattle.av_kinds.specs.declared.counter.Counter.{Counter}
use Rattle.av_kinds.specs.declared.planning.Modules.{Modules}
use Rattle.av_kinds.specs.declared.program.CellLanes.{CellLanes}
use Rattle.av_kinds.specs.Programs.{Lane, Program}
use Rattle.av_kinds.specs.Histories.{IsHistory, tasks_of}
use Rattle.av_kinds.specs.Names.{input_name, output_name, instance_name, labels}
use Rattle.av_kinds.specs.Counters.{count_in}
use Rattle.av_kinds.specs.Tops.{port, numbered_ports, output_widths}

abbrev pub plan_of : Listing → Modules → Plan
plan_of listing m = record { listing = listing; kinds = m.kinds; top = m.top; instances = m.instances }

-- each cell has the instance of its number, of the cell's kind, which drives the wires of the cell's lanes
pub record HasInstance (program : Program) (m : Modules) (p kind : ℕ) (own : CellLanes) : Type 0 where
  pub instance : Instance
  pub is_there : slice_get m.instances p ≡ Some instance
  pub name : instance.name ≡ instance_name p
  pub kind_is : instance.kind ≡ kind
  pub outputs : instance.outputs ≡ map (labels program).value (range_with_len own.first (suc (own.value - own.first)))

pub record AreNetlistsOf (counter : Counter) (program : Program) (m : Modules) : Type 0 where
  -- a sound plan with each listing of its ports and wires
  pub sound : (l : Listing) → All (MayBeListed (names_of m.top.inputs)) l.ins → All (MayBeListed (wire_names m.top)) l.ats → IsSoundPlan (plan_of l m)
  -- the module's name and ports, and a wire for each lane, as wide as its words
  pub name : m.top.name ≡ codes "array"
  pub inputs : m.top.inputs ≡ numbered_ports input_name 0 program.inputs
  pub outputs : m.top.outputs ≡ numbered_ports output_name 0 (output_widths program)
  pub wires : (q : ℕ) (lane : Lane) → slice_get program.lanes q ≡ Some lane → Contains m.top.wires (port lane.width ((labels program).value q))
  -- one instance for each cell, and one kind for cells of one kind
  pub one_each : length m.instances ≡ length program.cells
  pub instances : (p kind : ℕ) (own : CellLanes) → slice_get program.cells p ≡ Some own → slice_get program.kinds p ≡ Some kind → HasInstance program m p kind own
  -- in each run of the flat module the lanes have a history of the program, from any words of the registers
  pub histories : (l : Listing) (n : ℕ) (stream : Stream) (run : Run) → IsRun (flat_module (plan_of l m)) n stream run
      → IsHistory (tasks_of program) (count_in counter) n (λ c k. run.in_cycle c (input_name k)) (λ c q. run.in_cycle c ((labels program).value q))
  -- and each output port has the word of its lane
  pub shown : (l : Listing) (n : ℕ) (stream : Stream) (run : Run) → IsRun (flat_module (plan_of l m)) n stream run
      → (c k q : ℕ) → c < n → slice_get program.outputs k ≡ Some q → run.in_cycle c (output_name k) ≡ run.in_cycle c ((labels program).value q)
