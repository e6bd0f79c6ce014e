-- What loops have written so far: what is there and what the elements to come bring are together all that is to be written.
use Rattle.std.proofs.Common.{◌≡◌, ℕ, suc, ◌+◌, ◌<◌, ◌≤◌, List, [], ◌∷◌, ◌++◌, length, map, drop, get_or, refl, sym, subst, ap, ◌∙◌, arith, append_assoc, Bool, true, false, if◌then◌else◌, Some, None}
use Rattle.std.specs.List.{range_with_len}
use Rattle.std.proofs.lemmas.List.{append-nil, length-append, length-map, map-append}
use Rattle.av_base.proofs.Lists.{there_is, nothing_left}
use Rattle.av_net.specs.declared.operation.Operand.{Operand}
use Rattle.av_net.specs.declared.netlist.Port.{Port}
use Rattle.av_net.specs.declared.netlist.Drive.{Drive}
use Rattle.av_kinds.specs.declared.choice.Tap.{Tap}
use Rattle.av_kinds.specs.declared.interface.Interface.{Interface}
use Rattle.av_kinds.specs.declared.kind.KindParts.{KindParts}
use Rattle.av_kinds.specs.declared.shape.SiteShape.{SiteShape}
use Rattle.av_kinds.specs.declared.top.TopParts.{TopParts}
use Rattle.av_kinds.specs.Programs.{Lane, Program}
use Rattle.av_kinds.specs.Names.{labels, inner_name, kind_counter}
use Rattle.av_kinds.specs.Counters.{counter_width}
use Rattle.av_kinds.specs.Tops.{port, lane_wires, lane_registers, line_step, lane_steps}
use Rattle.av_kinds.specs.inner.Gates.{ports_from, drives_from}
use Rattle.av_kinds.specs.inner.Cells.{Datapath, GuardedDatapath}
use Rattle.av_kinds.specs.inner.Shapes.{ModeShape, LaneShape, ModeShapeMade, mode_shape_of}
use Rattle.av_kinds.specs.inner.Added.{GuardedDatapathMade, as_guarded}
use Rattle.av_kinds.specs.inner.Interfaces.{site_ports, past_site, tap_of, sites_ports, past_sites, taps_of, datapath_of, tested_ports, past_tested, guarded_of, modes_ports, past_modes, tested_of, last_of}
use Rattle.av_kinds.specs.inner.Kinds.{counts, output_of, lane_built, no_ports, lanes_inputs, lanes_outputs, lanes_wires, lanes_drives, kind_inputs}
use Rattle.av_kinds.specs.inner.Lanes.{HasNoParts, AddsLaneOf, counted}
use Rattle.av_kinds.specs.inner.Numbers.{counts_of, AreFew, AddsPorts, opened, IsOpened}
use Rattle.av_kinds.specs.inner.TopParts.{AddsLaneAt, ArePartsOf}
use Rattle.av_kinds.proofs.Placing.{one_less, some_less, none_less, gates_many, from_place, read_mapped}

-- ---- a kind, lane by lane

-- with the lanes from the k-th on still to come
pub record IsKindFrom (c : Operand) (all : List LaneShape) (k : ℕ) (own : Interface) (parts : KindParts) : Type 0 where
  pub ports : own.ports ++ lanes_inputs (counts_of own) (drop k all) ≡ kind_inputs all
  pub few : AreFew own
  pub outputs : parts.outputs ++ lanes_outputs k (drop k all) ≡ lanes_outputs 0 all
  pub wires : parts.wires ++ lanes_wires c (counts_of own) (length parts.wires) (drop k all) ≡ lanes_wires c no_ports 0 all
  pub drives : parts.drives ++ lanes_drives c (counts_of own) (length parts.wires) k (drop k all) ≡ lanes_drives c no_ports 0 0 all

pub lane_more : (c : Operand) (all : List LaneShape) (k j : ℕ) (own next : Interface) (old new : KindParts) → k + 1 ≡ j → IsKindFrom c all k own old → AddsLaneOf c all k own next old new → IsKindFrom c all j next new
lane_more c all k j own next old new at before adds =
    let lane = adds.lane in
    let rest = drop (suc k) all in
    let b = lane_built c (counts_of own) (length old.wires) lane in
    let here : counts_of next ≡ past_modes (counts_of own) lane.modes = adds.ports.counts_are in
    let many : length new.wires ≡ length old.wires + length b.gates =
    ap length adds.wires.wires ∙ length-append old.wires (ports_from (inner_name (length old.wires)) 0 b.gates) ∙ ap (λ i. length old.wires + i) (gates_many (inner_name (length old.wires)) 0 b.gates) in
    let follows : suc k ≡ j = omega (arith, at) in
    let number : suc k ≡ k + 1 = omega arith in
    let ports_split : lanes_inputs (counts_of own) (drop k all) ≡ modes_ports (counts_of own) lane.modes ++ lanes_inputs (counts_of next) rest =
    ap (lanes_inputs (counts_of own)) adds.is_lane ∙ ap (λ a. modes_ports (counts_of own) lane.modes ++ lanes_inputs a rest) (sym here) in
    let wires_split : lanes_wires c (counts_of own) (length old.wires) (drop k all) ≡ ports_from (inner_name (length old.wires)) 0 b.gates ++ lanes_wires c (counts_of next) (length new.wires) rest =
    ap (lanes_wires c (counts_of own) (length old.wires)) adds.is_lane
    ∙ ap (λ a. ports_from (inner_name (length old.wires)) 0 b.gates ++ lanes_wires c a (length old.wires + length b.gates) rest) (sym here)
    ∙ ap (λ n. ports_from (inner_name (length old.wires)) 0 b.gates ++ lanes_wires c (counts_of next) n rest) (sym many) in
    let last : Drive = record { target = output_of k rest; operation = b.root } in
    let own_drives = drives_from (inner_name (length old.wires)) 0 b.gates ++ last ∷ [] in
    let drives_split : lanes_drives c (counts_of own) (length old.wires) k (drop k all) ≡ own_drives ++ lanes_drives c (counts_of next) (length new.wires) (suc k) rest =
    ap (lanes_drives c (counts_of own) (length old.wires) k) adds.is_lane
    ∙ ap (λ a. drives_from (inner_name (length old.wires)) 0 b.gates ++ (last ∷ lanes_drives c a (length old.wires + length b.gates) (k + 1) rest)) (sym here)
    ∙ ap (λ n. drives_from (inner_name (length old.wires)) 0 b.gates ++ (last ∷ lanes_drives c (counts_of next) n (k + 1) rest)) (sym many)
    ∙ ap (λ i. drives_from (inner_name (length old.wires)) 0 b.gates ++ (last ∷ lanes_drives c (counts_of next) (length new.wires) i rest)) (sym number)
    ∙ sym (append_assoc (drives_from (inner_name (length old.wires)) 0 b.gates) (last ∷ []) (lanes_drives c (counts_of next) (length new.wires) (suc k) rest)) in
    let outputs_split : lanes_outputs k (drop k all) ≡ record { name = output_of k rest; width = lane.width } ∷ lanes_outputs (suc k) rest =
    ap (lanes_outputs k) adds.is_lane ∙ ap (λ i. let p : Port = record { name = output_of k rest; width = lane.width } in p ∷ lanes_outputs i rest) (sym number) in
    subst (λ i. IsKindFrom c all i next new) follows (record {
      ports = some_less (kind_inputs all) own.ports next.ports (modes_ports (counts_of own) lane.modes) (lanes_inputs (counts_of own) (drop k all)) (lanes_inputs (counts_of next) rest) before.ports adds.ports.ports_are ports_split;
      few = adds.ports.few;
      outputs = one_less (lanes_outputs 0 all) old.outputs new.outputs (record { name = output_of k rest; width = lane.width }) (lanes_outputs k (drop k all)) (lanes_outputs (suc k) rest) before.outputs adds.wires.outputs outputs_split;
      wires = some_less (lanes_wires c no_ports 0 all) old.wires new.wires (ports_from (inner_name (length old.wires)) 0 b.gates) (lanes_wires c (counts_of own) (length old.wires) (drop k all)) (lanes_wires c (counts_of next) (length new.wires) rest) before.wires adds.wires.wires wires_split;
      drives = some_less (lanes_drives c no_ports 0 0 all) old.drives new.drives own_drives (lanes_drives c (counts_of own) (length old.wires) k (drop k all)) (lanes_drives c (counts_of next) (length new.wires) (suc k) rest) before.drives adds.wires.drives drives_split;
    })

-- at the start there is the counter's port, where it is tested
pub kind_opened : (c : Operand) (all : List LaneShape) (own : Interface) (parts : KindParts) → IsOpened (counted all) own → HasNoParts parts → IsKindFrom c all 0 own parts
kind_opened c all own parts h empty =
    let none : length parts.wires ≡ 0 = ap length empty.wires in
    record {
      ports = ap (λ at. own.ports ++ lanes_inputs at all) h.counts_are ∙ ap (λ ps. ps ++ lanes_inputs no_ports all) (h.ports_are ∙ opened_by (counts all));
      few = h.few;
      outputs = ap (λ ps. ps ++ lanes_outputs 0 all) empty.outputs;
      wires = ap (λ at. parts.wires ++ lanes_wires c at (length parts.wires) all) h.counts_are ∙ ap (λ n. parts.wires ++ lanes_wires c no_ports n all) none ∙ ap (λ ps. ps ++ lanes_wires c no_ports 0 all) empty.wires;
      drives = ap (λ at. parts.drives ++ lanes_drives c at (length parts.wires) 0 all) h.counts_are ∙ ap (λ n. parts.drives ++ lanes_drives c no_ports n 0 all) none ∙ ap (λ ds. ds ++ lanes_drives c no_ports 0 0 all) empty.drives;
    }
  where
    opened_by : (b : Bool) → opened (if b then Some kind_counter else None) ≡ (if b then port counter_width kind_counter ∷ [] else [])
    opened_by true = refl
    opened_by false = refl

-- what a whole kind is made of
pub record IsKindWhole (c : Operand) (all : List LaneShape) (own : Interface) (parts : KindParts) : Type 0 where
  pub ports : own.ports ≡ kind_inputs all
  pub outputs : parts.outputs ≡ lanes_outputs 0 all
  pub wires : parts.wires ≡ lanes_wires c no_ports 0 all
  pub drives : parts.drives ≡ lanes_drives c no_ports 0 0 all

pub kind_whole : (c : Operand) (all : List LaneShape) (n : ℕ) (own : Interface) (parts : KindParts) → length all ≤ n → IsKindFrom c all n own parts → IsKindWhole c all own parts
kind_whole c all n own parts most h =
    let none = nothing_left all n most in
    record {
      ports = none_less (kind_inputs all) own.ports (lanes_inputs (counts_of own) (drop n all)) h.ports (ap (lanes_inputs (counts_of own)) none);
      outputs = none_less (lanes_outputs 0 all) parts.outputs (lanes_outputs n (drop n all)) h.outputs (ap (lanes_outputs n) none);
      wires = none_less (lanes_wires c no_ports 0 all) parts.wires (lanes_wires c (counts_of own) (length parts.wires) (drop n all)) h.wires (ap (lanes_wires c (counts_of own) (length parts.wires)) none);
      drives = none_less (lanes_drives c no_ports 0 0 all) parts.drives (lanes_drives c (counts_of own) (length parts.wires) n (drop n all)) h.drives (ap (lanes_drives c (counts_of own) (length parts.wires) n) none);
    }

-- ---- the top module, lane by lane

pub record IsTopFrom (program : Program) (q : ℕ) (parts : TopParts) : Type 0 where
  pub wires : parts.wires ++ lane_wires (labels program) q (drop q program.lanes) ≡ lane_wires (labels program) 0 program.lanes
  pub registers : parts.registers ++ lane_registers (labels program) q (drop q program.lanes) ≡ lane_registers (labels program) 0 program.lanes
  pub drives : parts.drives ≡ []
  pub steps : parts.steps ++ lane_steps (labels program) q (drop q program.lanes) ≡ lane_steps (labels program) 0 program.lanes

-- one lane alone, and those behind it
one_lane : {X : Type 0} (f : ℕ → List Lane → List X) (own : List X) (q : ℕ) (lane : Lane) (rest : List Lane) → f q (lane ∷ []) ≡ own ++ f (q + 1) [] → f (q + 1) [] ≡ [] → f q (lane ∷ rest) ≡ own ++ f (q + 1) rest → f q (lane ∷ rest) ≡ f q (lane ∷ []) ++ f (q + 1) rest
one_lane f own q lane rest alone none all = all ∙ ap (λ ys. ys ++ f (q + 1) rest) (sym (alone ∙ ap (λ ys. own ++ ys) none ∙ append-nil own))

pub top_more : (program : Program) (q j : ℕ) (old new : TopParts) → q + 1 ≡ j → IsTopFrom program q old → AddsLaneAt program q old new → IsTopFrom program j new
top_more program q j old new at before adds =
    let N = labels program in
    let lane = adds.lane in
    let rest = drop (suc q) program.lanes in
    let number : suc q ≡ q + 1 = omega arith in
    let follows : suc q ≡ j = omega (arith, at) in
    let split = from_place program.lanes q lane adds.is_lane in
    let own_registers = map (λ d. let p : Port = record { name = N.register q d; width = lane.width } in p) (range_with_len 0 lane.length) in
    let own_steps = map (line_step N q) (range_with_len 0 lane.length) in
    let wires_split : lane_wires N q (drop q program.lanes) ≡ lane_wires N q (lane ∷ []) ++ lane_wires N (suc q) rest = ap (lane_wires N q) split ∙ ap (λ i. lane_wires N q (lane ∷ []) ++ lane_wires N i rest) (sym number) in
    let registers_split : lane_registers N q (drop q program.lanes) ≡ lane_registers N q (lane ∷ []) ++ lane_registers N (suc q) rest =
    ap (lane_registers N q) split ∙ one_lane (lane_registers N) own_registers q lane rest refl refl refl ∙ ap (λ i. lane_registers N q (lane ∷ []) ++ lane_registers N i rest) (sym number) in
    let steps_split : lane_steps N q (drop q program.lanes) ≡ lane_steps N q (lane ∷ []) ++ lane_steps N (suc q) rest =
    ap (lane_steps N q) split ∙ one_lane (lane_steps N) own_steps q lane rest refl refl refl ∙ ap (λ i. lane_steps N q (lane ∷ []) ++ lane_steps N i rest) (sym number) in
    subst (λ i. IsTopFrom program i new) follows (record {
      wires = some_less (lane_wires N 0 program.lanes) old.wires new.wires (lane_wires N q (lane ∷ [])) (lane_wires N q (drop q program.lanes)) (lane_wires N (suc q) rest) before.wires adds.wires wires_split;
      registers = some_less (lane_registers N 0 program.lanes) old.registers new.registers (lane_registers N q (lane ∷ [])) (lane_registers N q (drop q program.lanes)) (lane_registers N (suc q) rest) before.registers adds.registers registers_split;
      drives = adds.drives ∙ before.drives;
      steps = some_less (lane_steps N 0 program.lanes) old.steps new.steps (lane_steps N q (lane ∷ [])) (lane_steps N q (drop q program.lanes)) (lane_steps N (suc q) rest) before.steps adds.steps steps_split;
    })

pub top_whole : (program : Program) (n : ℕ) (parts : TopParts) → length program.lanes ≤ n → IsTopFrom program n parts → ArePartsOf program parts
top_whole program n parts most h =
    let N = labels program in
    let none = nothing_left program.lanes n most in
    record {
      wires = none_less (lane_wires N 0 program.lanes) parts.wires (lane_wires N n (drop n program.lanes)) h.wires (ap (lane_wires N n) none);
      registers = none_less (lane_registers N 0 program.lanes) parts.registers (lane_registers N n (drop n program.lanes)) h.registers (ap (lane_registers N n) none);
      drives = h.drives;
      steps = none_less (lane_steps N 0 program.lanes) parts.steps (lane_steps N n (drop n program.lanes)) h.steps (ap (lane_steps N n) none);
    }

-- ---- the places of a mode

pub record AreSitesFrom (first : Interface) (sites : List SiteShape) (i : ℕ) (own : Interface) (taps : List Tap) : Type 0 where
  pub taps_are : taps ++ taps_of (counts_of own) (drop i sites) ≡ taps_of (counts_of first) sites
  pub ports_are : own.ports ++ sites_ports (counts_of own) (drop i sites) ≡ first.ports ++ sites_ports (counts_of first) sites
  pub counts_are : past_sites (counts_of own) (drop i sites) ≡ past_sites (counts_of first) sites
  pub few : AreFew own

pub site_more : (first : Interface) (sites : List SiteShape) (i j : ℕ) (site : SiteShape) (own next : Interface) (old new : List Tap) (tap : Tap) → drop i sites ≡ site ∷ drop j sites → AreSitesFrom first sites i own old
    → AddsPorts own next (site_ports (counts_of own) site) (past_site (counts_of own) site) → tap ≡ tap_of (counts_of own) site → new ≡ old ++ tap ∷ [] → AreSitesFrom first sites j next new
site_more first sites i j site own next old new tap split before adds is put =
    let rest = drop j sites in
    let here : past_site (counts_of own) site ≡ counts_of next = sym adds.counts_are in
    record {
      taps_are = one_less (taps_of (counts_of first) sites) old new tap (taps_of (counts_of own) (drop i sites)) (taps_of (counts_of next) rest) before.taps_are put
          (ap (taps_of (counts_of own)) split ∙ ap (λ a. tap_of (counts_of own) site ∷ taps_of a rest) here ∙ ap (λ t. t ∷ taps_of (counts_of next) rest) (sym is));
      ports_are = some_less (first.ports ++ sites_ports (counts_of first) sites) own.ports next.ports (site_ports (counts_of own) site) (sites_ports (counts_of own) (drop i sites)) (sites_ports (counts_of next) rest) before.ports_are adds.ports_are
          (ap (sites_ports (counts_of own)) split ∙ ap (λ a. site_ports (counts_of own) site ++ sites_ports a rest) here);
      counts_are = ap (λ a. past_sites a rest) (sym here) ∙ sym (ap (past_sites (counts_of own)) split) ∙ before.counts_are;
      few = adds.few;
    }

pub sites_begun : (first : Interface) (sites : List SiteShape) (taps : List Tap) → AreFew first → taps ≡ [] → AreSitesFrom first sites 0 first taps
sites_begun first sites taps few none = record { taps_are = ap (λ ts. ts ++ taps_of (counts_of first) sites) none; ports_are = refl; counts_are = refl; few = few }

pub sites_whole : (first : Interface) (sites : List SiteShape) (n : ℕ) (own : Interface) (taps : List Tap) → length sites ≤ n → AreSitesFrom first sites n own taps
    → (taps ≡ taps_of (counts_of first) sites) × AddsPorts first own (sites_ports (counts_of first) sites) (past_sites (counts_of first) sites)
sites_whole first sites n own taps most h =
    let none = nothing_left sites n most in (
      none_less (taps_of (counts_of first) sites) taps (taps_of (counts_of own) (drop n sites)) h.taps_are (ap (taps_of (counts_of own)) none),
      record {
        ports_are = none_less (first.ports ++ sites_ports (counts_of first) sites) own.ports (sites_ports (counts_of own) (drop n sites)) h.ports_are (ap (sites_ports (counts_of own)) none);
        counts_are = sym (ap (past_sites (counts_of own)) none) ∙ h.counts_are;
        few = h.few;
      },
    )

-- ---- the modes of a lane

pub record AreModesFrom (first : Interface) (shapes : List ModeShape) (k : ℕ) (own : Interface) (modes : List GuardedDatapath) : Type 0 where
  pub modes_are : modes ++ tested_of (counts_of own) (drop k shapes) ≡ tested_of (counts_of first) shapes
  pub last_is : last_of (counts_of own) (drop k shapes) ≡ last_of (counts_of first) shapes
  pub ports_are : own.ports ++ modes_ports (counts_of own) (drop k shapes) ≡ first.ports ++ modes_ports (counts_of first) shapes
  pub counts_are : past_modes (counts_of own) (drop k shapes) ≡ past_modes (counts_of first) shapes
  pub few : AreFew own

pub mode_more : (first : Interface) (shapes : List ModeShape) (k j : ℕ) (t u : ModeShape) (rest : List ModeShape) (own next : Interface) (old new : List GuardedDatapath) (g : GuardedDatapath)
    → drop k shapes ≡ t ∷ u ∷ rest → drop j shapes ≡ u ∷ rest → AreModesFrom first shapes k own old → AddsPorts own next (tested_ports (counts_of own) t) (past_tested (counts_of own) t) → g ≡ guarded_of (counts_of own) t → new ≡ old ++ g ∷ []
    → AreModesFrom first shapes j next new
mode_more first shapes k j t u rest own next old new g split follows before adds is put =
    let at = counts_of own in
    let here : past_tested at t ≡ counts_of next = sym adds.counts_are in
    let later : u ∷ rest ≡ drop j shapes = sym follows in
    record {
      modes_are = one_less (tested_of (counts_of first) shapes) old new g (tested_of at (drop k shapes)) (tested_of (counts_of next) (drop j shapes)) before.modes_are put
          (ap (tested_of at) split ∙ ap (λ a. guarded_of at t ∷ tested_of a (u ∷ rest)) here ∙ ap (λ x. x ∷ tested_of (counts_of next) (u ∷ rest)) (sym is) ∙ ap (λ xs. g ∷ tested_of (counts_of next) xs) later);
      last_is = sym (ap (last_of at) split ∙ ap (λ a. last_of a (u ∷ rest)) here ∙ ap (last_of (counts_of next)) later) ∙ before.last_is;
      ports_are = some_less (first.ports ++ modes_ports (counts_of first) shapes) own.ports next.ports (tested_ports at t) (modes_ports at (drop k shapes)) (modes_ports (counts_of next) (drop j shapes)) before.ports_are adds.ports_are
          (ap (modes_ports at) split ∙ ap (λ a. tested_ports at t ++ modes_ports a (u ∷ rest)) here ∙ ap (λ xs. tested_ports at t ++ modes_ports (counts_of next) xs) later);
      counts_are = sym (ap (past_modes at) split ∙ ap (λ a. past_modes a (u ∷ rest)) here ∙ ap (past_modes (counts_of next)) later) ∙ before.counts_are;
      few = adds.few;
    }

-- a mode of several that is not the last
pub mode_put : (first : Interface) (all : List ModeShapeMade) (k : ℕ) (x : ModeShapeMade) (own next : Interface) (old new : List GuardedDatapathMade) (g : GuardedDatapathMade) → k + 1 < length all → x ≡ get_or all k x
    → AreModesFrom first (map mode_shape_of all) k own (map as_guarded old) → AddsPorts own next (tested_ports (counts_of own) (mode_shape_of x)) (past_tested (counts_of own) (mode_shape_of x)) → as_guarded g ≡ guarded_of (counts_of own) (mode_shape_of x)
    → new ≡ old ++ g ∷ [] → AreModesFrom first (map mode_shape_of all) (k + 1) next (map as_guarded new)
mode_put first all k x own next old new g lt is before adds made put =
    let shapes = map mode_shape_of all in
    let many : length shapes ≡ length all = length-map all mode_shape_of in
    let later = there_is shapes (k + 1) (omega (arith, many, lt)) in
    let one : suc k ≡ k + 1 = omega arith in
    let follows = from_place shapes (k + 1) later.0 later.1 in
    let split : drop k shapes ≡ mode_shape_of x ∷ later.0 ∷ drop (suc (k + 1)) shapes =
    from_place shapes k (mode_shape_of x) (read_mapped mode_shape_of all k x x (omega (arith, lt)) is) ∙ ap (λ i. mode_shape_of x ∷ drop i shapes) one ∙ ap (λ ys. mode_shape_of x ∷ ys) follows in
    mode_more first shapes k (k + 1) (mode_shape_of x) later.0 (drop (suc (k + 1)) shapes) own next (map as_guarded old) (map as_guarded new) (as_guarded g) split follows before adds made (ap (map as_guarded) put ∙ map-append as_guarded old (g ∷ []))

pub modes_begun : (first : Interface) (shapes : List ModeShape) (modes : List GuardedDatapath) → AreFew first → modes ≡ [] → AreModesFrom first shapes 0 first modes
modes_begun first shapes modes few none = record { modes_are = ap (λ ms. ms ++ tested_of (counts_of first) shapes) none; last_is = refl; ports_are = refl; counts_are = refl; few = few }

-- the last mode, which is not tested
pub record AreModesWhole (first : Interface) (shapes : List ModeShape) (own : Interface) (modes : List GuardedDatapath) (last : Datapath) : Type 0 where
  pub modes_are : modes ≡ tested_of (counts_of first) shapes
  pub last_is : last ≡ last_of (counts_of first) shapes
  pub ports : AddsPorts first own (modes_ports (counts_of first) shapes) (past_modes (counts_of first) shapes)

pub modes_whole : (first : Interface) (shapes : List ModeShape) (k : ℕ) (t : ModeShape) (own next : Interface) (modes : List GuardedDatapath) (last : Datapath) → drop k shapes ≡ t ∷ [] → AreModesFrom first shapes k own modes
    → AddsPorts own next (sites_ports (counts_of own) t.sites) (past_sites (counts_of own) t.sites) → last ≡ datapath_of (counts_of own) t → AreModesWhole first shapes next modes last
modes_whole first shapes k t own next modes last split before adds is =
    let at = counts_of own in
    record {
      modes_are = none_less (tested_of (counts_of first) shapes) modes (tested_of at (drop k shapes)) before.modes_are (ap (tested_of at) split);
      last_is = is ∙ sym (ap (last_of at) split) ∙ before.last_is;
      ports = record {
        ports_are = adds.ports_are ∙ ap (λ ps. own.ports ++ ps) (sym (ap (modes_ports at) split)) ∙ before.ports_are;
        counts_are = adds.counts_are ∙ sym (ap (past_modes at) split) ∙ before.counts_are;
        few = adds.few;
      };
    }
