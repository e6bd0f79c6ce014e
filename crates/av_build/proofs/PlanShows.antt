-- The flat design of an array's plan shows each solution for the inputs, some times as many cycles later as the counter has numbers.
use Rattle.std.proofs.Common.{◌≡◌, ℕ, zero, suc, ◌+◌, ◌*◌, ◌<◌, List, [], ◌∷◌, map, length, sym, ap, subst, ◌∙◌, arith, Some}
use Rattle.std.specs.Prelude.{All, Contains, slice_get}
use Rattle.std.proofs.lemmas.List.Elements.{All-contains, All-from_recursion, recursion_from_All, All-map}
use Rattle.av_base.specs.declared.width.Width.{Width}
use Rattle.av_base.proofs.Lists.{each_weaker, get_mapped}
use Rattle.av_base.proofs.Among.{among_map, first_among, more_among}
use Rattle.av_tree.specs.Points.{Point}
use Rattle.av_tree.specs.Values.{Assignment}
use Rattle.av_flat.specs.Trees.{Variable}
use Rattle.av_flat.specs.Nodes.{is_node, nodes, number_at}
use Rattle.av_flat.specs.Helped.{HelperWords, IsHelpedSolution}
use Rattle.av_net.specs.declared.netlist.Port.{Port}
use Rattle.av_net.specs.declared.design.Entry.{Entry}
use Rattle.av_net.specs.declared.design.Listing.{Listing}
use Rattle.av_net.specs.Clocked.{Stream, Run, IsRun}
use Rattle.av_net.specs.Flat.{flat_module, flat_of}
use Rattle.av_net.specs.Shown.{HasListed, Presents as PresentsWords, Shows}
use Rattle.av_space.specs.Listings.{InLine, AreInLines, IsWireOf, output, value, AtLine, IsAtLine, AreAtLines}
use Rattle.av_space.proofs.Elements.{in_range}
use Rattle.av_flat.proofs.NodeNumbers.{passing}
use Rattle.av_kinds.specs.declared.counter.Counter.{Counter}
use Rattle.av_kinds.specs.declared.planning.Modules.{Modules}
use Rattle.av_kinds.specs.Programs.{Program}
use Rattle.av_kinds.specs.Histories.{Signals, tasks_of}
use Rattle.av_kinds.specs.Counters.{count_in, number_count}
use Rattle.av_kinds.specs.Names.{Naming, input_name, labels}
use Rattle.av_kinds.specs.Tops.{port, numbered_ports}
use Rattle.av_kinds.specs.Netlists.{plan_of, AreNetlistsOf}
use Rattle.av_history.specs.Performing.{Array, ComputesOn, Lanes}
use Rattle.av_history.specs.Arranged.{IsArranged}
use Rattle.av_history.specs.Problems.{Presents, HaveWords}
use Rattle.av_history.proofs.Problems.{each_problem}
use Rattle.av_build.specs.Later.{later_line, later_lines, later}
use Rattle.av_build.specs.inner.Programmed.{IsProgramFor}
use Rattle.av_build.proofs.CellValues.{value_label}
use Rattle.av_build.proofs.Performed.{performs}

-- ---- ports

pub port_there : (name : Naming) (b : ℕ) (widths : List Width) (k : ℕ) → k < length widths → (w : Width) × Contains (numbered_ports name b widths) (port w (name (b + k)))
port_there name b [] k l = absurd (omega (arith, l))
port_there name b (w ∷ widths) zero l =
    let e : b ≡ b + 0 = omega arith in
    (w, subst (λ (n : ℕ). Contains (numbered_ports name b (w ∷ widths)) (port w (name n))) e (first_among (port w (name b)) (numbered_ports name (b + 1) widths)))
port_there name b (w ∷ widths) (suc k) l =
    let r = port_there name (b + 1) widths k (omega (arith, l)) in
    let e : b + 1 + k ≡ b + suc k = omega arith in
    (r.0, more_among (port w (name b)) (port r.0 (name (b + suc k))) (numbered_ports name (b + 1) widths) (subst (λ (n : ℕ). Contains (numbered_ports name (b + 1) widths) (port r.0 (name n))) e r.1))

-- ---- the plan

pub record Given (a : Array) (counter : Counter) (lanes : Lanes) (outputs : List ℕ) (listing : Listing) (program : Program) (m : Modules) : Type 0 where
  pub arranged : IsArranged a
  pub is_program : IsProgramFor a (count_in counter) lanes program
  pub netlists : AreNetlistsOf counter program m
  pub inputs_many : length program.inputs ≡ length a.ports
  pub outputs_are : program.outputs ≡ map lanes.of_value outputs
  pub are_ins : AreInLines a.system a.helpers a.times a.cells a.ports listing.ins
  pub are_ats : AreAtLines a.system a.times a.cells outputs listing.ats

module _ (a : Array) (counter : Counter) (lanes : Lanes) (outputs : List ℕ) (listing : Listing) (program : Program) (m : Modules) (given : Given a counter lanes outputs listing program m)
    (n : ℕ) (stream : Stream) (run : Run) (is_run : IsRun (flat_module (plan_of listing m)) n stream run) where
  abbrev ports : Signals
  ports = λ c k. run.in_cycle c (input_name k)

  abbrev words : Signals
  words = λ c q. run.in_cycle c ((labels program).value q)

  -- an input port has the word of the stream
  port_has : (c : ℕ) → c < n → (k : ℕ) → k < length a.ports → run.in_cycle c (input_name k) ≡ stream.in_cycle c (input_name k)
  port_has c late k low =
      let many = given.inputs_many in
      let there = port_there input_name 0 program.inputs k (omega (arith, low, many)) in
      let e : 0 + k ≡ k = omega arith in
      let of_top : Contains m.top.inputs (port there.0 (input_name k)) = subst (λ (ps : List Port). Contains ps (port there.0 (input_name k))) (sym given.netlists.inputs)
      (subst (λ (i : ℕ). Contains (numbered_ports input_name 0 program.inputs) (port there.0 (input_name i))) e there.1) in
      All-contains (λ (p : Port). run.in_cycle c p.name ≡ stream.in_cycle c p.name) m.top.inputs (port there.0 (input_name k)) (is_run.ports c late) of_top

  -- what a stream presents, the ports have
  presented : (start : ℕ) (x : Assignment) → PresentsWords (later start (flat_of (plan_of listing m))) n stream x → Presents a start x n ports
  presented start x h l is late =
      let line = l.entry in
      let among : Contains listing.ins line = subst (λ (es : List Entry). Contains es line) (sym given.are_ins.entries) (among_map (λ (k : InLine). k.entry) given.are_ins.lines l (given.are_ins.all l is)) in
      let here = All-contains (HasListed n stream.in_cycle x) (later_lines start listing.ins) (later_line start line) h.points (among_map (later_line start) listing.ins line among) late in
      let same = port_has (line.cycle + start) late l.port (in_range a.ports l.port is.port is.is_port) in
      let wire : stream.in_cycle (line.cycle + start) line.wire ≡ stream.in_cycle (line.cycle + start) (input_name l.port) = ap (stream.in_cycle (line.cycle + start)) is.wire_is in
      ap (λ w. Some w) (same ∙ sym wire) ∙ here

  -- the wire of a line has the word of the lane of its cell's value
  wire_has : (c : ℕ) → c < n → (p d k : ℕ) (z : Point) (v : Variable) → ComputesOn a p d k z → slice_get (nodes a.system) k ≡ Some v → (wire : List ℕ) → IsWireOf outputs p wire → run.in_cycle c wire ≡ words c (lanes.of_value p)
  wire_has c late p d k z v computes is_variable wire (output i is) =
      given.netlists.shown listing n stream run is_run c i (lanes.of_value p) late (ap (λ (qs : List ℕ). slice_get qs i) given.outputs_are ∙ get_mapped lanes.of_value outputs i p is)
  wire_has c late p d k z v computes is_variable wire (value none) =
      let x = given.is_program.values p d k z v computes is_variable in
      ap (run.in_cycle c) (sym (value_label program (lanes.of_value p) p x.2.0 x.2.1 x.2.2.home_is x.2.2.rank_is))

  line_shows : (start : ℕ) (u : Assignment) → HaveWords a lanes start u n words → (l : AtLine) → IsAtLine a.system a.times a.cells outputs l → HasListed n run.in_cycle u (later_line start l.entry)
  line_shows start u have l is late =
      let c = l.entry.cycle in
      let v = is.variable in
      let at = passing is_node a.system.variables l.node v is.is_variable in
      let computes : ComputesOn a is.cell c (number_at a.system at.place) l.entry.point = subst (λ k. ComputesOn a is.cell c k l.entry.point) (sym at.number) is.computes in
      let known = have at.place l.entry.point v at.is at.passes is.cell c computes late in
      ap (λ w. Some w) (wire_has (c + start) late is.cell c l.node l.entry.point v is.computes is.is_variable l.entry.wire is.wire_is) ∙ sym known ∙ sym (ap (λ name. u name l.entry.point) is.variable_is)

-- Each solution is shown.
pub shows : (a : Array) (counter : Counter) (lanes : Lanes) (outputs : List ℕ) (listing : Listing) (program : Program) (m : Modules) → Given a counter lanes outputs listing program m
    → (k : ℕ) (x u : Assignment) (g : HelperWords) → IsHelpedSolution a.system a.helpers x u g → Shows (later (k * number_count counter) (flat_of (plan_of listing m))) x u
shows a counter lanes outputs listing program m given k x u g solves n stream run is_run presents =
    let start = k * number_count counter in
    let own = ports a counter lanes outputs listing program m given n stream run is_run in
    let has = words a counter lanes outputs listing program m given n stream run is_run in
    let have = each_problem a lanes (tasks_of program) counter given.arranged (performs a (count_in counter) lanes program given.is_program) n own has (given.netlists.histories listing n stream run is_run) k x u g solves
    (presented a counter lanes outputs listing program m given n stream run is_run start x presents) in
    let P : Entry → Type 0 = HasListed n run.in_cycle u in
    let lines = given.are_ats.lines in
    let each : All (λ (l : AtLine). P (later_line start l.entry)) lines =
    All-from_recursion (λ (l : AtLine). P (later_line start l.entry)) lines
    (each_weaker (IsAtLine a.system a.times a.cells outputs) (λ (l : AtLine). P (later_line start l.entry)) (λ l is. line_shows a counter lanes outputs listing program m given n stream run is_run start u have l is) lines
    (recursion_from_All (IsAtLine a.system a.times a.cells outputs) lines given.are_ats.each)) in
    let of_entries : All (λ (e : Entry). P (later_line start e)) listing.ats =
    subst (λ (es : List Entry). All (λ (e : Entry). P (later_line start e)) es) (sym given.are_ats.entries) (All-map (λ (e : Entry). P (later_line start e)) (λ (l : AtLine). l.entry) lines each) in
    All-map P (later_line start) listing.ats of_entries
