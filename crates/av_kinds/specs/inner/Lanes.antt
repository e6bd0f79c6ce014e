-- What a lane brings into a kind that is written lane by lane.
use Rattle.std.specs.Prelude.{◌≡◌, ◌≢◌, ℕ, suc, List, [], ◌∷◌, ◌++◌, drop, length, Option, Some, None, if◌then◌else◌}
use Rattle.av_base.specs.declared.width.Width.{Width}
use Rattle.av_net.specs.declared.operation.Operand.{Operand}
use Rattle.av_kinds.specs.declared.interface.Interface.{Interface}
use Rattle.av_kinds.specs.declared.kind.KindParts.{KindParts}
use Rattle.av_kinds.specs.Names.{inner_name, pipe_name, kind_value, kind_counter}
use Rattle.av_kinds.specs.Tops.{port}
use Rattle.av_kinds.specs.inner.Gates.{Built, drives_from, ports_from}
use Rattle.av_kinds.specs.inner.Cells.{datapaths_built}
use Rattle.av_kinds.specs.inner.Added.{LaneDatapathsMade, as_datapaths}
use Rattle.av_kinds.specs.inner.Shapes.{LaneShape}
use Rattle.av_kinds.specs.inner.Kinds.{counts, output_of, lane_built}
use Rattle.av_kinds.specs.inner.Interfaces.{modes_ports, past_modes}
use Rattle.av_kinds.specs.inner.Numbers.{counts_of, AddsPorts}

pub record HasNoParts (parts : KindParts) : Type 0 where
  pub outputs : parts.outputs ≡ []
  pub wires : parts.wires ≡ []
  pub drives : parts.drives ≡ []

-- the wires that it builds, and its output
pub record AddsWires (name : List ℕ) (width : Width) (b : Built) (old new : KindParts) : Type 0 where
  pub outputs : new.outputs ≡ old.outputs ++ port width name ∷ []
  pub wires : new.wires ≡ old.wires ++ ports_from (inner_name (length old.wires)) 0 b.gates
  pub drives : new.drives ≡ old.drives ++ (drives_from (inner_name (length old.wires)) 0 b.gates ++ record { target = name; operation = b.root } ∷ [])

abbrev pub AddsLane : Operand → List ℕ → Width → LaneDatapathsMade → KindParts → KindParts → Type 0
AddsLane counter name width lane old new = AddsWires name width (datapaths_built (inner_name (length old.wires)) width counter 0 (as_datapaths lane)) old new

-- the lane k of so many has the value where it is the last one
pub record IsOutputOf (k count : ℕ) (name : List ℕ) : Type 0 where
  pub last : suc k ≡ count → name ≡ kind_value
  pub others : suc k ≢ count → name ≡ pipe_name k

-- the lane k of a kind, with its ports
pub record AddsLaneOf (counter : Operand) (all : List LaneShape) (k : ℕ) (before after : Interface) (old new : KindParts) : Type 0 where
  pub lane : LaneShape
  pub is_lane : drop k all ≡ lane ∷ drop (suc k) all
  pub ports : AddsPorts before after (modes_ports (counts_of before) lane.modes) (past_modes (counts_of before) lane.modes)
  pub wires : AddsWires (output_of k (drop (suc k) all)) lane.width (lane_built counter (counts_of before) (length old.wires) lane) old new

-- the counter's port, where a lane tests the counter
abbrev pub counted : List LaneShape → Option (List ℕ)
counted shape = if counts shape then Some kind_counter else None
