-- What a step of writing leaves behind what was there.
use Rattle.std.specs.Prelude.{◌≡◌, ◌≤◌, ℕ, List, ◌++◌, length, map}
use Rattle.av_base.specs.declared.width.Width.{Width}
use Rattle.av_net.specs.declared.operation.Operand.{Operand}
use Rattle.av_net.specs.declared.operation.Operation.{Operation}
use Rattle.av_net.specs.declared.operation.Operation.TheVariants.{Choose}
use Rattle.av_flat.specs.declared.tree.Tree.{Tree as TreeMade}
use Rattle.av_flat.specs.Trees.{view}
use Rattle.av_kinds.specs.declared.choice.Guard.{Guard}
use Rattle.av_kinds.specs.declared.choice.Tap.{Tap}
use Rattle.av_kinds.specs.declared.gates.LaneGate.{LaneGate}
use Rattle.av_kinds.specs.Names.{Naming}
use Rattle.av_kinds.specs.inner.Gates.{Built, built, Named, named, named_by}
use Rattle.av_kinds.specs.Programs.{site_count}
use Rattle.av_kinds.specs.Tops.{one_bit}
use Rattle.av_kinds.specs.inner.Choices.{guard_built}
use Rattle.av_kinds.specs.inner.Cells.{Datapath, GuardedDatapath, LaneDatapaths, Taken}

-- the wires are these, and the operation is the root
pub record Adds (gates : List LaneGate) (b : Built) (root : Operation) : Type 0 where
  pub gates_are : gates ≡ b.gates
  pub root_is : root ≡ b.root

pub record AddsNamed (gates : List LaneGate) (b : Named) (operand : Operand) : Type 0 where
  pub gates_are : gates ≡ b.gates
  pub operand_is : operand ≡ b.operand

-- these wires were added, and the operation is the root
pub record AddsBuilt (old gates : List LaneGate) (b : Built) (root : Operation) : Type 0 where
  pub gates_are : gates ≡ old ++ b.gates
  pub root_is : root ≡ b.root

-- and a wire for the root
pub record AddsOperand (name : Naming) (w : Width) (old gates : List LaneGate) (b : Built) (operand : Operand) : Type 0 where
  pub gates_are : gates ≡ old ++ (named name (length old) w b).gates
  pub operand_is : operand ≡ (named name (length old) w b).operand

-- those of several places that read
pub record AddsTaken (old gates : List LaneGate) (taken : Taken) (operands : List Operand) : Type 0 where
  pub gates_are : gates ≡ old ++ taken.gates
  pub operands_are : operands ≡ taken.operands

-- a test of the counter on a wire, and the choice by it
abbrev pub choice_built : Naming → ℕ → Operand → Guard → Operand → Operand → Built
choice_built name n counter guard first second =
    let t = named name n one_bit (guard_built name n counter guard) in
    built t.gates (Choose t.operand first second)

-- the root on a wire, and then the choice by a guard between an operand and it
pub record AddsGuarded (name : Naming) (w : Width) (counter : Operand) (guard : Guard) (first : Operand) (old : List LaneGate) (root : Operation) (gates : List LaneGate) (choice : Operation) : Type 0 where
  pub between : List LaneGate
  pub second : Operand
  pub on_wire : AddsNamed between (named_by name 0 w old root) second
  pub chosen : AddsBuilt between gates (choice_built name (length between) counter guard first second) choice

-- ---- datapaths as the code keeps them: with trees as they lie in memory

pub record DatapathMade : Type 0 where
  pub taps : List Tap
  pub tree : TreeMade

pub record GuardedDatapathMade : Type 0 where
  pub guards : List Guard
  pub datapath : DatapathMade

pub record LaneDatapathsMade : Type 0 where
  pub modes : List GuardedDatapathMade
  pub otherwise : DatapathMade

abbrev pub as_datapath : DatapathMade → Datapath
as_datapath datapath = record { taps = datapath.taps; tree = view datapath.tree }

abbrev pub as_guarded : GuardedDatapathMade → GuardedDatapath
as_guarded t = record { guards = t.guards; datapath = as_datapath t.datapath }

abbrev pub as_datapaths : LaneDatapathsMade → LaneDatapaths
as_datapaths lane = record { modes = map as_guarded lane.modes; otherwise = as_datapath lane.otherwise }

-- each place of the tree that reads has a tap
abbrev pub HasTaps : DatapathMade → Type 0
HasTaps datapath = site_count (view datapath.tree) ≤ length datapath.taps
