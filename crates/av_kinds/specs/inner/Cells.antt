-- What a lane computes: at each number of the counter the tree of one of its works, over the words that its taps bring.
use Rattle.std.specs.Prelude.{ℕ, ◌+◌, Bool, List, [], ◌∷◌, ◌++◌, length, map, slice_index_or, if◌then◌else◌}
use Rattle.std.specs.List.{list_any}
use Rattle.av_base.specs.declared.width.Width.{Width}
use Rattle.av_net.specs.declared.operation.Operand.{Operand}
use Rattle.av_net.specs.declared.operation.Operand.TheVariants.{Literal}
use Rattle.av_net.specs.declared.operation.Operation.TheVariants.{Plain}
use Rattle.av_net.specs.Meaning.{Words}
use Rattle.av_flat.specs.Trees.{Tree, reference, pick}
use Rattle.av_kinds.specs.declared.gates.LaneGate.{LaneGate}
use Rattle.av_kinds.specs.Names.{Naming}
use Rattle.av_kinds.specs.inner.Gates.{Built, built, Named, named}
use Rattle.av_kinds.specs.Histories.{value_by}
use Rattle.av_kinds.specs.inner.Trees.{tree_built}
use Rattle.av_kinds.specs.declared.choice.Guard.{Guard}
use Rattle.av_kinds.specs.declared.choice.Arm.{Arm}
use Rattle.av_kinds.specs.declared.choice.Tap.{Tap}
use Rattle.av_kinds.specs.inner.Choices.{holds_in, options_built, tap_value, fit_built}

-- a tree, and what brings the word of each place that reads
pub record Datapath : Type 0 where
  pub taps : List Tap
  pub tree : Tree

-- in one of these guards, this datapath
pub record GuardedDatapath : Type 0 where
  pub guards : List Guard
  pub datapath : Datapath

-- the datapaths of a lane: the first that has a guard with the number, or the last one
pub record LaneDatapaths : Type 0 where
  pub modes : List GuardedDatapath
  pub otherwise : Datapath

-- ---- what it computes

abbrev pub is_selected : Words → ℕ → GuardedDatapath → Bool
is_selected v c t = list_any (holds_in v c) t.guards

abbrev pub datapath_by : Words → ℕ → Datapath → List GuardedDatapath → Datapath
datapath_by v c otherwise [] = otherwise
datapath_by v c otherwise (t ∷ modes) = if is_selected v c t then t.datapath else datapath_by v c otherwise modes

abbrev pub datapath_in : Words → ℕ → LaneDatapaths → Datapath
datapath_in v c lane = datapath_by v c lane.otherwise lane.modes

-- the words that the taps bring, by number, as words of the width w
abbrev pub brought : ℕ → Words → ℕ → List Tap → ℕ → ℕ
brought w v c taps k = slice_index_or (map (tap_value w v c) taps) k 0

abbrev pub datapath_value : ℕ → Words → ℕ → Datapath → ℕ
datapath_value w v c datapath = value_by w (brought w v c datapath.taps) 0 datapath.tree

abbrev pub datapaths_value : ℕ → Words → ℕ → LaneDatapaths → ℕ
datapaths_value w v c lane = datapath_value w v c (datapath_in v c lane)

-- ---- its wires

-- of all taps, one after another
pub record Taken : Type 0 where
  pub gates : List LaneGate
  pub operands : List Operand

abbrev pub taps_built : Naming → Width → Operand → ℕ → List Tap → Taken
taps_built name w counter n [] = record { gates = []; operands = [] }
taps_built name w counter n (tap ∷ taps) =
    let t = named name n w (fit_built name w counter n tap) in
    let rest = taps_built name w counter (n + length t.gates) taps in
    record { gates = t.gates ++ rest.gates; operands = t.operand ∷ rest.operands }

abbrev pub operand_at : Width → List Operand → ℕ → Operand
operand_at w operands k = slice_index_or operands k (Literal w 0)

-- the wires of a tree behind those of its taps
abbrev pub over_taps : Naming → Width → ℕ → Taken → Tree → Built
over_taps name w n taken tree =
    let root = tree_built name w (operand_at w taken.operands) (n + length taken.gates) 0 tree in
    built (taken.gates ++ root.gates) root.root

-- the wires of a tree that is one place: its selection, which needs no wire of its own
abbrev pub place_built : Naming → Width → Operand → ℕ → List Tap → Built
place_built name w counter n [] = built [] (Plain (Literal w 0))
place_built name w counter n (tap ∷ taps) = fit_built name w counter n tap

-- a tree over what its taps bring
abbrev pub piece_built : Naming → Width → Operand → ℕ → List Tap → Tree → Built
piece_built name w counter n taps (reference place m) = place_built name w counter n taps
piece_built name w counter n taps (pick place choices k) = place_built name w counter n taps
piece_built name w counter n taps tree = over_taps name w n (taps_built name w counter n taps) tree

abbrev pub datapath_built : Naming → Width → Operand → ℕ → Datapath → Built
datapath_built name w counter n datapath = piece_built name w counter n datapath.taps datapath.tree

-- the first operand in each of these guards
abbrev pub options_of : Operand → List Guard → List Arm
options_of operand guards = map (λ guard. record { guard = guard; operand = operand }) guards

-- the first in one of the guards, else the second: the wires of the second come first
abbrev pub mode_built : Naming → Width → Operand → ℕ → List Guard → Named → Named → Built
mode_built name w counter n guards first second =
    let root = options_built name w counter (n + length second.gates + length first.gates) second.operand (options_of first.operand guards) in
    built (second.gates ++ (first.gates ++ root.gates)) root.root

abbrev pub modes_built : Naming → Width → Operand → ℕ → Datapath → List GuardedDatapath → Built
modes_built name w counter n otherwise [] = datapath_built name w counter n otherwise
modes_built name w counter n otherwise (t ∷ modes) =
    let second = named name n w (modes_built name w counter n otherwise modes) in
    let m = n + length second.gates in
    mode_built name w counter n t.guards (named name m w (datapath_built name w counter m t.datapath)) second

abbrev pub datapaths_built : Naming → Width → Operand → ℕ → LaneDatapaths → Built
datapaths_built name w counter n lane = modes_built name w counter n lane.otherwise lane.modes
