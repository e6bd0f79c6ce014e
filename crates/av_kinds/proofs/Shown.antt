-- The lanes of a cell show what its program says: where the instance of the cell is settled, the wire of each lane has the word of the work whose mode it
-- is, over the words of its sources in the same cycle.
use Rattle.std.proofs.Common.{◌≡◌, ℕ, ◌+◌, List, [], ◌∷◌, length, refl, subst, ◌∙◌, true}
use Rattle.std.specs.List.{AllByRecursion}
use Rattle.av_base.proofs.Lists.{each_first, each_second}
use Rattle.av_base.proofs.Truths.{by_test}
use Rattle.av_net.specs.declared.operation.Operand.{Operand}
use Rattle.av_net.specs.declared.operation.Operand.TheVariants.{Name, Literal}
use Rattle.av_net.specs.declared.netlist.Drive.{Drive}
use Rattle.av_net.specs.Meaning.{Words, Widths}
use Rattle.av_net.specs.Settled.{Holds}
use Rattle.av_net.specs.Instances.{AreFed, AreTaken}
use Rattle.av_kinds.specs.declared.gates.LaneGate.{LaneGate}
use Rattle.av_kinds.specs.Programs.{Mode, mode_at, Lane}
use Rattle.av_kinds.specs.Names.{Naming, Labels, inner_name}
use Rattle.av_kinds.specs.inner.Gates.{drives_from, ports_from}
use Rattle.av_kinds.specs.Counters.{counter_width}
use Rattle.av_kinds.specs.inner.Shapes.{ModeShape, LaneShape, SuitModes, SuitLanes}
use Rattle.av_kinds.specs.inner.Interfaces.{PortCounts, sites_ports, past_sites, window_ports, tested_ports, past_tested, modes_ports, past_modes, datapaths_of}
use Rattle.av_kinds.specs.inner.Kinds.{lane_built, output_of, lanes_inputs, lanes_outputs, lanes_wires, lanes_drives, counts}
use Rattle.av_kinds.specs.inner.Instances.{sites_operands, windows_for, tested_operands, modes_operands, work_for, lanes_operands, outputs_from}
use Rattle.av_kinds.proofs.Works.{Works, HasWord}
use Rattle.av_kinds.proofs.Cells.{datapaths_gives}
use Rattle.av_kinds.proofs.Fed.{OneEach, one_each_joined, fed_front, fed_back, windows_each}
use Rattle.av_kinds.proofs.Taken.{ArePiped, work_value, lane_taken, sites_each}
use Rattle.av_kinds.proofs.Wide.{IsWide, ArePipesWide, datapaths_fits}
use Rattle.av_kinds.proofs.Uncounted.{wires_same, drives_same}

modes_each : (names : Labels) (at : PortCounts) (shapes : List ModeShape) (modes : List Mode) → SuitModes shapes modes → OneEach (modes_ports at shapes) (modes_operands names shapes modes)
modes_each names at [] modes suit = tt
modes_each names at (f ∷ []) modes suit = sites_each names at f.sites (mode_at modes f.number).work.sites suit.0.sites
modes_each names at (f ∷ g ∷ shapes) modes suit =
    let mode = mode_at modes f.number in
    let bound = (past_sites at f.sites).bounds in
    let own = one_each_joined (sites_ports at f.sites) (window_ports bound f.windows) (sites_operands names f.sites mode.work.sites) (windows_for f.windows mode.windows) (sites_each names at f.sites mode.work.sites suit.0.sites) (windows_each bound f.windows mode.windows) in
    one_each_joined (tested_ports at f) (modes_ports (past_tested at f) (g ∷ shapes)) (tested_operands names f mode) (modes_operands names (g ∷ shapes) modes) own (modes_each names (past_tested at f) (g ∷ shapes) modes suit.1)

works_from : (widths : Widths) (v : Words) (name : Naming) (n : ℕ) (gates : List LaneGate) → AllByRecursion (Holds widths v) (drives_from name n gates) → AllByRecursion (IsWide widths) (ports_from name n gates) → Works widths v name n gates
works_from widths v name n [] holds wide = tt
works_from widths v name n (g ∷ gates) holds wide = (holds.0, wide.0, works_from widths v name (n + 1) gates holds.1 wide.1)

-- of each lane, with numbers from q on, the word of its work
abbrev pub LanesShow : Labels → Words → ℕ → ℕ → List LaneShape → List Lane → Type 0
LanesShow names v c q (shape ∷ shapes) (lane ∷ lanes) = (v (names.value q) ≡ work_value names shape.width.bits v c (work_for c shape.modes lane.modes)) × LanesShow names v c (q + 1) shapes lanes
LanesShow names v c q [] lanes = Unit {0}
LanesShow names v c q (shape ∷ shapes) [] = Unit {0}

abbrev pub LanesPiped : Labels → Words → Words → ℕ → List LaneShape → List Lane → Type 0
LanesPiped names inner v c (shape ∷ shapes) (lane ∷ lanes) = ArePiped names inner v c shape.modes lane.modes × LanesPiped names inner v c shapes lanes
LanesPiped names inner v c [] lanes = Unit {0}
LanesPiped names inner v c (shape ∷ shapes) [] = Unit {0}

abbrev pub LanesPipesWide : Widths → List LaneShape → Type 0
LanesPipesWide widths [] = Unit {0}
LanesPipesWide widths (shape ∷ shapes) = ArePipesWide widths shape.modes × LanesPipesWide widths shapes

lanes_show : (names : Labels) (widths : Widths) (inner v : Words) (counter : Operand) (c : ℕ) → HasWord widths inner 12 counter c → (at : PortCounts) (n k q : ℕ) (shapes : List LaneShape) (lanes : List Lane)
    → SuitLanes shapes lanes → LanesPiped names inner v c shapes lanes → LanesPipesWide widths shapes
    → AllByRecursion (Holds widths inner) (lanes_drives counter at n k shapes) → AllByRecursion (IsWide widths) (lanes_inputs at shapes) → AllByRecursion (IsWide widths) (lanes_wires counter at n shapes)
    → AreFed inner v (lanes_inputs at shapes) (lanes_operands names shapes lanes) → AreTaken inner v (lanes_outputs k shapes) (outputs_from names q (length shapes)) → LanesShow names v c q shapes lanes
lanes_show names widths inner v counter c count at n k q [] lanes suit piped pipes holds ports wires fed taken = tt
lanes_show names widths inner v counter c count at n k q (shape ∷ shapes) [] suit piped pipes holds ports wires fed taken = tt
lanes_show names widths inner v counter c count at n k q (shape ∷ shapes) (lane ∷ lanes) suit piped pipes holds ports wires fed taken =
    let b = lane_built counter at n shape in
    let H = Holds widths inner in
    let W = IsWide widths in
    let last : Drive = record { target = output_of k shapes; operation = b.root } in
    let more = lanes_drives counter (past_modes at shape.modes) (n + length b.gates) (k + 1) shapes in
    let own = drives_from (inner_name n) 0 b.gates in
    let own_holds = each_first H own (last ∷ more) holds in
    let rest_holds = each_second H own (last ∷ more) holds in
    let own_wires = each_first W (ports_from (inner_name n) 0 b.gates) (lanes_wires counter (past_modes at shape.modes) (n + length b.gates) shapes) wires in
    let rest_wires = each_second W (ports_from (inner_name n) 0 b.gates) (lanes_wires counter (past_modes at shape.modes) (n + length b.gates) shapes) wires in
    let own_ports = each_first W (modes_ports at shape.modes) (lanes_inputs (past_modes at shape.modes) shapes) ports in
    let rest_ports = each_second W (modes_ports at shape.modes) (lanes_inputs (past_modes at shape.modes) shapes) ports in
    let each = modes_each names at shape.modes lane.modes suit.0.modes in
    let own_fed = fed_front inner v (modes_ports at shape.modes) (lanes_inputs (past_modes at shape.modes) shapes) (modes_operands names shape.modes lane.modes) (lanes_operands names shapes lanes) each fed in
    let rest_fed = fed_back inner v (modes_ports at shape.modes) (lanes_inputs (past_modes at shape.modes) shapes) (modes_operands names shape.modes lane.modes) (lanes_operands names shapes lanes) each fed in
    let works = works_from widths inner (inner_name n) 0 b.gates own_holds own_wires in
    let gives = datapaths_gives widths inner (inner_name n) shape.width 12 c counter 0 (datapaths_of at shape.modes) count (datapaths_fits widths at shape.modes pipes.0 own_ports) works in (
      taken.0 ∙ rest_holds.0 ∙ gives.result ∙ lane_taken names inner v shape.width.bits c at shape.modes lane.modes suit.0.modes piped.0 own_fed,
      lanes_show names widths inner v counter c count (past_modes at shape.modes) (n + length b.gates) (k + 1) (q + 1) shapes lanes suit.1 piped.1 pipes.1 rest_holds.1 rest_ports rest_wires rest_fed taken.1,
    )

-- the same for a kind that may or may not have the counter among its inputs
pub kind_shows : (names : Labels) (widths : Widths) (inner v : Words) (counter : List ℕ) (c : ℕ) (q : ℕ) (shapes : List LaneShape) (lanes : List Lane) (at : PortCounts)
    → (counts shapes ≡ true → HasWord widths inner 12 (Name counter) c)
    → SuitLanes shapes lanes → LanesPiped names inner v c shapes lanes → LanesPipesWide widths shapes
    → AllByRecursion (Holds widths inner) (lanes_drives (Name counter) at 0 0 shapes) → AllByRecursion (IsWide widths) (lanes_inputs at shapes) → AllByRecursion (IsWide widths) (lanes_wires (Name counter) at 0 shapes)
    → AreFed inner v (lanes_inputs at shapes) (lanes_operands names shapes lanes) → AreTaken inner v (lanes_outputs 0 shapes) (outputs_from names q (length shapes)) → LanesShow names v c q shapes lanes
kind_shows names widths inner v counter c q shapes lanes at count suit piped pipes holds ports wires fed taken =
    by_test (counts shapes)
    (λ counted. lanes_show names widths inner v (Name counter) c (count counted) at 0 0 q shapes lanes suit piped pipes holds ports wires fed taken)
    (λ uncounted.
    let literal : Operand = Literal counter_width c in
    let has : HasWord widths inner 12 literal c = record { word = refl; width = refl } in
    let same_drives = subst (AllByRecursion (Holds widths inner)) (drives_same (Name counter) literal at 0 0 shapes uncounted) holds in
    let same_wires = subst (AllByRecursion (IsWide widths)) (wires_same (Name counter) literal at 0 shapes uncounted) wires in
    lanes_show names widths inner v literal c has at 0 0 q shapes lanes suit piped pipes same_drives ports same_wires fed taken)
