-- A lane of a kind that is written: its wires, its drives and its output.
use Rattle.std.proofs.Common.{◌≡◌, ℕ, suc, ◌-◌, ◌<◌, ◌≤◌, List, [], ◌∷◌, ◌++◌, length, map, drop, get_or, refl, sym, subst, ap, ◌∙◌, arith, append_assoc, Bool, if◌then◌else◌, Some, None}
use Rattle.std.specs.List.{AllByRecursion}
use Rattle.std.proofs.lemmas.List.{length-drop, length-map}
use Rattle.av_base.specs.declared.width.Width.{Width}
use Rattle.av_net.specs.declared.operation.Operand.{Operand}
use Rattle.av_net.specs.declared.operation.Operation.{Operation}
use Rattle.av_net.specs.declared.netlist.Drive.{Drive}
use Rattle.av_net.specs.declared.netlist.Port.{Port}
use Rattle.av_kinds.specs.declared.gates.LaneGate.{LaneGate}
use Rattle.av_kinds.specs.declared.interface.Interface.{Interface}
use Rattle.av_kinds.specs.declared.kind.KindParts.{KindParts}
use Rattle.av_kinds.specs.declared.naming.WireNames.{WireNames}
use Rattle.av_kinds.specs.declared.shape.SiteShape.{SiteShape}
use Rattle.av_net.specs.declared.operation.Operand.TheVariants.{Name}
use Rattle.av_net.specs.declared.plan.CellKind.{CellKind}
use Rattle.av_kinds.specs.Names.{inner_name, pipe_name, kind_value, kind_counter, kind_name}
use Rattle.av_kinds.specs.Programs.{site_count}
use Rattle.av_kinds.specs.Tops.{port}
use Rattle.av_kinds.specs.inner.Gates.{Built, drives_from, ports_from}
use Rattle.av_kinds.specs.inner.Cells as cells
use Rattle.av_kinds.specs.inner.Cells.{GuardedDatapath, modes_built, datapaths_built}
use Rattle.av_kinds.specs.inner.Shapes.{ModeShape, LaneShape, LaneShapeMade, lane_shape_of, IsModeShape, IsLaneShape, IsKindShape}
use Rattle.av_kinds.specs.inner.Interfaces.{PortCounts, past_site, past_tested, past_modes, taps_of, datapath_of, tested_of, last_of, datapaths_of, modes_ports}
use Rattle.av_kinds.specs.inner.Kinds.{counts, output_of, lane_built, no_ports, lanes_outputs, lanes_wires, kind_inputs, kind_by}
use Rattle.av_kinds.specs.inner.Numbered.{wire_in}
use Rattle.av_kinds.specs.inner.Numbers.{counts_of, AddsPorts, IsOpened}
use Rattle.av_kinds.specs.inner.Added.{AddsBuilt, GuardedDatapathMade, LaneDatapathsMade, as_datapath, as_guarded, as_datapaths, HasTaps}
use Rattle.av_kinds.specs.inner.Lanes.{AddsWires, AddsLane, IsOutputOf, AddsLaneOf, counted}
use Rattle.av_kinds.proofs.Writing.{IsKindWhole}
use Rattle.av_kinds.proofs.Placing.{drive_of, read_mapped, from_place}

abbrev pub parts_with : List Port → List Port → List Drive → KindParts
parts_with outputs wires drives = record { outputs = outputs; wires = wires; drives = drives }

pub lane_written : (counter : Operand) (name : List ℕ) (w : Width) (lane : LaneDatapathsMade) (old : KindParts) (names : WireNames) (empty gates : List LaneGate) (root : Operation) (outputs wires : List Port) (mid drives : List Drive)
    → names.first ≡ length old.wires → empty ≡ [] → AddsBuilt empty gates (modes_built (wire_in names) w counter (length empty) (as_datapath lane.otherwise) (map as_guarded lane.modes)) root
    → wires ≡ old.wires ++ ports_from (wire_in names) 0 gates → mid ≡ old.drives ++ drives_from (wire_in names) 0 gates → outputs ≡ old.outputs ++ port w name ∷ [] → drives ≡ mid ++ drive_of name root ∷ []
    → AddsLane counter name w lane old (parts_with outputs wires drives)
lane_written counter name w lane old names empty gates root outputs wires mid drives first none h is_wires is_mid is_outputs is_drives =
    let n = length old.wires in
    let F : ℕ → ℕ → Built = λ f m. modes_built (inner_name f) w counter m (as_datapath lane.otherwise) (map as_guarded lane.modes) in
    let b = F n 0 in
    let k : AddsBuilt [] gates b root = subst (λ f. AddsBuilt [] gates (F f 0) root) first (subst (λ (xs : List LaneGate). AddsBuilt xs gates (F names.first (length xs)) root) none h) in
    record {
      outputs = is_outputs;
      wires = is_wires ∙ ap (λ f. old.wires ++ ports_from (inner_name f) 0 gates) first ∙ ap (λ gs. old.wires ++ ports_from (inner_name n) 0 gs) k.gates_are;
      drives = is_drives ∙ ap (λ ds. ds ++ drive_of name root ∷ []) is_mid ∙ append_assoc old.drives (drives_from (wire_in names) 0 gates) (drive_of name root ∷ [])
          ∙ ap (λ f. old.drives ++ (drives_from (inner_name f) 0 gates ++ drive_of name root ∷ [])) first ∙ ap (λ gs. old.drives ++ (drives_from (inner_name n) 0 gs ++ drive_of name root ∷ [])) k.gates_are
          ∙ ap (λ r. old.drives ++ (drives_from (inner_name n) 0 b.gates ++ drive_of name r ∷ [])) k.root_is;
    }

-- the last lane has the value
output_named : (k : ℕ) (all : List LaneShape) (name : List ℕ) → k < length all → IsOutputOf k (length all) name → name ≡ output_of k (drop (suc k) all)
output_named k all name lt h = by_rest (drop (suc k) all) (length-drop (suc k) all)
  where
    by_rest : (rest : List LaneShape) → length rest ≡ length all - suc k → name ≡ output_of k rest
    by_rest [] many = h.last (omega (arith, many, lt))
    by_rest (x ∷ rest) many = h.others (λ e. omega (arith, many, e))

pub last_output : (k count : ℕ) (name : List ℕ) → k < count → k ≡ count - 1 → name ≡ kind_value → IsOutputOf k count name
last_output k count name lt e is = record { last = λ at. is; others = λ differs. absurd (differs (omega (arith, lt, e))) }

pub other_output : (k count : ℕ) (name : List ℕ) → k < count → (k ≡ count - 1 → ⊥) → name ≡ pipe_name k → IsOutputOf k count name
other_output k count name lt differs is = record { last = λ at. absurd (differs (omega (arith, at))); others = λ at. is }

-- the counter's port, by whether there is one
pub opened_by : (all : List LaneShape) (own : Interface) (b : Bool) → b ≡ counts all → IsOpened (if b then Some kind_counter else None) own → IsOpened (counted all) own
opened_by all own b e h = subst (λ c. IsOpened (if c then Some kind_counter else None) own) e h

-- ---- each place that reads has a tap

taps_many : (at : PortCounts) (sites : List SiteShape) → length (taps_of at sites) ≡ length sites
taps_many at [] = refl
taps_many at (site ∷ sites) = ap suc (taps_many (past_site at site) sites)

abbrev IsFull : cells.Datapath → Type 0
IsFull d = site_count d.tree ≤ length d.taps

datapath_full : (all : List LaneShape) (k w : ℕ) (at : PortCounts) (mode : ModeShape) → IsModeShape all k w mode → IsFull (datapath_of at mode)
datapath_full all k w at mode is = omega (arith, is.many, taps_many at mode.sites)

modes_full : (all : List LaneShape) (k w : ℕ) (at : PortCounts) (modes : List ModeShape) → AllByRecursion (IsModeShape all k w) modes → AllByRecursion (λ (g : GuardedDatapath). IsFull g.datapath) (tested_of at modes)
modes_full all k w at [] are = tt
modes_full all k w at (m ∷ []) are = tt
modes_full all k w at (m ∷ n ∷ modes) are = (datapath_full all k w at m are.0, modes_full all k w (past_tested at m) (n ∷ modes) are.1)

last_full : (all : List LaneShape) (k w : ℕ) (at : PortCounts) (modes : List ModeShape) → AllByRecursion (IsModeShape all k w) modes → IsFull (last_of at modes)
last_full all k w at [] are = omega arith
last_full all k w at (m ∷ []) are = datapath_full all k w at m are.0
last_full all k w at (m ∷ n ∷ modes) are = last_full all k w (past_tested at m) (n ∷ modes) are.1

each_seen : {X Y : Type 0} (P : Y → Type 0) (f : X → Y) (xs : List X) → AllByRecursion P (map f xs) → AllByRecursion (λ x. P (f x)) xs
each_seen P f [] h = tt
each_seen P f (x ∷ xs) h = (h.0, each_seen P f xs h.1)

-- the lane k of a shape has its ports' datapaths
pub lane_shape_at : (shape : List LaneShapeMade) (k : ℕ) (x : LaneShapeMade) → IsKindShape (map lane_shape_of shape) → k < length shape → x ≡ get_or shape k x → IsLaneShape (map lane_shape_of shape) k (lane_shape_of x)
lane_shape_at shape k x is lt there = is.lanes k (lane_shape_of x) (read_mapped lane_shape_of shape k x x lt there)

pub modes_have_taps : (all : List LaneShape) (k : ℕ) (at : PortCounts) (lane : LaneShape) (own : LaneDatapathsMade) → IsLaneShape all k lane → as_datapaths own ≡ datapaths_of at lane.modes → AllByRecursion (λ (t : GuardedDatapathMade). HasTaps t.datapath) own.modes
modes_have_taps all k at lane own is e =
    each_seen (λ (g : GuardedDatapath). IsFull g.datapath) as_guarded own.modes
    (subst (AllByRecursion (λ (g : GuardedDatapath). IsFull g.datapath)) (sym (ap (λ (d : cells.LaneDatapaths). d.modes) e)) (modes_full all k lane.width.bits at lane.modes is.modes))

pub last_has_taps : (all : List LaneShape) (k : ℕ) (at : PortCounts) (lane : LaneShape) (own : LaneDatapathsMade) → IsLaneShape all k lane → as_datapaths own ≡ datapaths_of at lane.modes → HasTaps own.otherwise
last_has_taps all k at lane own is e = subst IsFull (sym (ap (λ (d : cells.LaneDatapaths). d.otherwise) e)) (last_full all k lane.width.bits at lane.modes is.modes)

-- ---- a lane with its ports

pub lane_with_ports : (counter : Operand) (shape : List LaneShapeMade) (k : ℕ) (x : LaneShapeMade) (before after : Interface) (old new : KindParts) (w : Width) (name : List ℕ) (own : LaneDatapathsMade) → k < length shape → x ≡ get_or shape k x
    → AddsPorts before after (modes_ports (counts_of before) (lane_shape_of x).modes) (past_modes (counts_of before) (lane_shape_of x).modes) → as_datapaths own ≡ datapaths_of (counts_of before) (lane_shape_of x).modes
    → IsOutputOf k (length shape) name → w ≡ x.width → AddsLane counter name w own old new → AddsLaneOf counter (map lane_shape_of shape) k before after old new
lane_with_ports counter shape k x before after old new w name own lt there ports is output wide adds =
    let all = map lane_shape_of shape in
    let lane = lane_shape_of x in
    let rest = drop (suc k) all in
    let many : length all ≡ length shape = length-map shape lane_shape_of in
    let named : name ≡ output_of k rest = output_named k all name (omega (arith, many, lt)) (subst (λ n. IsOutputOf k n name) (sym many) output) in
    record {
      lane = lane;
      is_lane = from_place all k lane (read_mapped lane_shape_of shape k x x lt there);
      ports = ports;
      wires = subst (λ t. AddsWires t lane.width (lane_built counter (counts_of before) (length old.wires) lane) old new) named
          (subst (λ v. AddsWires name v (datapaths_built (inner_name (length old.wires)) v counter 0 (datapaths_of (counts_of before) lane.modes)) old new) wide
          (subst (λ (d : cells.LaneDatapaths). AddsWires name w (datapaths_built (inner_name (length old.wires)) w counter 0 d) old new) is adds));
    }

-- ---- the whole

abbrev pub kind_with : List ℕ → List Port → List Port → List Port → List Drive → CellKind
kind_with name inputs outputs wires drives = record { name = name; inputs = inputs; outputs = outputs; wires = wires; drives = drives }

pub kind_made : (number : ℕ) (all : List LaneShape) (own : Interface) (parts : KindParts) (name : List ℕ) → name ≡ kind_name number → IsKindWhole (Name kind_counter) all own parts → kind_with name own.ports parts.outputs parts.wires parts.drives ≡ kind_by number all
kind_made number all own parts name is h =
    ap (λ t. kind_with t own.ports parts.outputs parts.wires parts.drives) is ∙ ap (λ ps. kind_with (kind_name number) ps parts.outputs parts.wires parts.drives) h.ports
    ∙ ap (λ ps. kind_with (kind_name number) (kind_inputs all) ps parts.wires parts.drives) h.outputs ∙ ap (λ ps. kind_with (kind_name number) (kind_inputs all) (lanes_outputs 0 all) ps parts.drives) h.wires
    ∙ ap (kind_with (kind_name number) (kind_inputs all) (lanes_outputs 0 all) (lanes_wires (Name kind_counter) no_ports 0 all)) h.drives
