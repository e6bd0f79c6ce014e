-- A run that is clocked and written cycle by cycle.
use Rattle.std.proofs.Common.{◌≡◌, ℕ, zero, suc, ◌+◌, ◌<◌, ◌≤◌, false, List, [], ◌∷◌, ◌++◌, length, get_or, take, drop, Option, Some, slice_get, refl, sym, ap, ◌∙◌, subst, arith, add-one, length-append}
use Rattle.std.specs.Prelude.{All, Contains}
use Rattle.std.proofs.lemmas.List.{length-map}
use Rattle.std.proofs.lemmas.List.Elements.{All-contains, All-head, All-tail, Contains-append_left}
use Rattle.std.proofs.lemmas.Option.{slice_get_within}
use Rattle.std.proofs.Math.Seq.{take-append-add}
use Rattle.av_base.specs.Outside.{SinkState, Adds, AddsPrefix}
use Rattle.av_base.proofs.Moves.{Adds-more}
use Rattle.av_net.specs.declared.netlist.Port.{Port}
use Rattle.av_net.specs.declared.netlist.Module.{Module}
use Rattle.av_net.specs.Meaning.{Words}
use Rattle.av_net.specs.Names.{names_of, given_names, all_names}
use Rattle.av_net.specs.Settled.{Settled, Agree}
use Rattle.av_net.specs.Clocked.{Edge}
use Rattle.av_clock.specs.Seen.{Seen, carried}
use Rattle.av_data.specs.declared.stimulus.Stimulus.{Stimulus}
use Rattle.av_data.specs.Cycles.{cycle_line}
use Rattle.av_commands.specs.declared.simulation.Prepared.{Prepared}
use Rattle.av_wave.specs.Simulated.{header_ports, port_words, words_line, run_lines}
use Rattle.av_wave.specs.Clocking.{ForRuns, AreLeft, ArePresented}
use Rattle.av_commands.specs.inner.Clocking.{IsPrepared}
use Rattle.av_wave.proofs.Presenting.{words_noted}
use Rattle.av_commands.proofs.Prefixes.{lines_split}
use Rattle.av_wave.proofs.Cycling.{tick_registers, presented, settled_cycle, header_named}
use Rattle.av_data.proofs.Lined.{name_there}

-- c cycles were written, and the registers have the words of the next one
pub record IsRunning (m : Module) (s : Stimulus) (c : ℕ) (parts : Prepared) (next : ℕ) (sink sink' : SinkState) : Type 0 where
  pub prepared : IsPrepared m parts
  pub written : ForRuns m s (λ run. Adds sink.held sink'.held (run_lines m run.in_cycle c))
  pub registers : ForRuns m s (λ run. c < s.cycles → Agree (names_of m.registers) (carried parts.clock) (run.in_cycle c))
  pub left : AreLeft m.inputs s.values c 0 (drop next s.values)
  pub within : next ≤ length s.values
  pub later : sink.faults ≤ sink'.faults

-- ---- a settled cycle

-- the words shown are those of the run
same_words : (names : List (List ℕ)) (v w : Words) (ports : List Port) → Agree names v w → All (λ port. Contains names port.name) ports → port_words v ports ≡ port_words w ports
same_words names v w [] agree all = refl
same_words names v w (p ∷ ports) agree all =
    ap (λ z. z ∷ port_words v ports) (All-contains (λ name. v name ≡ w name) names p.name agree (All-head (λ (port : Port). Contains names port.name) p ports all))
    ∙ ap (λ (z : List ℕ). w p.name ∷ z) (same_words names v w ports agree (All-tail (λ (port : Port). Contains names port.name) p ports all))

pub shown_line : (m : Module) (s : Stimulus) (c : ℕ) (w : Words) → ForRuns m s (λ run. c < s.cycles → Agree (all_names m) w (run.in_cycle c))
    → ForRuns m s (λ run. c < s.cycles → cycle_line c (header_ports m) (port_words w (header_ports m)) ≡ words_line m (run.in_cycle c) c)
shown_line m s c w same = λ stream run stimulated is lt.
    ap (cycle_line c (header_ports m)) (same_words (all_names m) w (run.in_cycle c) (header_ports m) (same stream run stimulated is lt) (header_named m))

-- ---- lines

pub line_added : (m : Module) (s : Stimulus) (c : ℕ) (held held' held'' : Option (List ℕ)) (line : List ℕ) → c < s.cycles → ForRuns m s (λ run. Adds held held' (run_lines m run.in_cycle c)) → Adds held' held'' line
    → ForRuns m s (λ run. c < s.cycles → line ≡ words_line m (run.in_cycle c) c) → ForRuns m s (λ run. Adds held held'' (run_lines m run.in_cycle (c + 1)))
line_added m s c held held' held'' line lt so adds is = λ stream run stimulated clocked.
    rw add-one
    (subst (λ z. Adds held held'' (run_lines m run.in_cycle c ++ z)) (is stream run stimulated clocked lt) (Adds-more held held' held'' (run_lines m run.in_cycle c) line (so stream run stimulated clocked) adds))

-- a front of a line
pub front_added : (m : Module) (s : Stimulus) (c : ℕ) (held held' held'' : Option (List ℕ)) (line : List ℕ) → c < s.cycles → ForRuns m s (λ run. Adds held held' (run_lines m run.in_cycle c)) → AddsPrefix held' held'' line
    → ForRuns m s (λ run. c < s.cycles → line ≡ words_line m (run.in_cycle c) c) → ForRuns m s (λ run. AddsPrefix held held'' (run_lines m run.in_cycle s.cycles))
front_added m s c held held' held'' line lt so (n, adds) is = λ stream run stimulated clocked.
    let before = run_lines m run.in_cycle c in
    let (rest, split) = lines_split (run_lines m run.in_cycle) (λ k. words_line m (run.in_cycle k) k) (λ k. refl) c s.cycles lt in
    let same : run_lines m run.in_cycle s.cycles ≡ before ++ (line ++ rest) = split ∙ ap (λ z. before ++ (z ++ rest)) (sym (is stream run stimulated clocked lt)) in
    let all : Adds held held'' (before ++ take n line) = Adds-more held held' held'' before (take n line) (so stream run stimulated clocked) adds in
    let front : take (length before + length (take n line)) (before ++ (line ++ rest)) ≡ before ++ take n line = take-append-add before (line ++ rest) (length (take n line)) ∙ ap (λ z. before ++ z) (begins n line rest) in
    (length before + length (take n line), subst (Adds held held'') (sym front ∙ ap (take (length before + length (take n line))) (sym same)) all)
  where
    begins : (n : ℕ) (line rest : List ℕ) → take (length (take n line)) (line ++ rest) ≡ take n line
    begins zero line rest = refl
    begins (suc n) [] rest = refl
    begins (suc n) (b ∷ line) rest = ap (λ (z : List ℕ). b ∷ z) (begins n line rest)

-- ---- the turn of a cycle

-- the words noted of the input ports are those of the settled clock
pub inputs_noted : (m : Module) (s : Stimulus) (c : ℕ) (parts : Prepared) (seen seen' : Seen) (words : List ℕ) → IsPrepared m parts → length words ≡ length parts.words → seen.of ≡ parts.clock.of → seen'.of ≡ seen.of
    → ArePresented seen.of s.values c parts.inputs (carried seen) words → Agree (given_names seen'.of) (carried seen) (carried seen') → take parts.inputs words ≡ port_words (carried seen') seen'.of.inputs
inputs_noted m s c parts seen seen' words prepared room of of' presented agree =
    let at : seen'.of ≡ m = of' ∙ of ∙ prepared.clock in
    let here = subst (λ x. ArePresented x s.values c parts.inputs (carried seen) words) (of ∙ prepared.clock) presented in
    let same = subst (λ x. Agree (given_names x) (carried seen) (carried seen')) at agree in
    let each : (k : ℕ) (port : Port) → slice_get m.inputs k ≡ Some port → get_or words k 0 ≡ carried seen' port.name = λ k port e.
    let lt : k < parts.inputs = (let w = slice_get_within m.inputs k port e in let n = prepared.count in omega (arith, w, n)) in
    let both = here k port lt e in
    both.1 ∙ sym both.0 ∙ All-contains (λ name. carried seen name ≡ carried seen' name) (given_names m) port.name same (Contains-append_left (names_of m.inputs) (names_of m.registers) port.name (name_there m.inputs k port e)) in
    let long : length m.inputs ≤ length words = (let r = prepared.room in let a = length-append m.inputs m.outputs in omega (arith, r, a, room)) in
    ap (λ n. take n words) prepared.count ∙ words_noted m.inputs (λ port. carried seen' port.name) words long each ∙ ap (λ (x : Module). port_words (carried seen') x.inputs) (sym at)

module _ (m : Module) (s : Stimulus) (c : ℕ) (parts : Prepared) (next : ℕ) (sink sink' : SinkState) (running : IsRunning m s c parts next sink sink') (lt : c < s.cycles)
    (seen seen' : Seen) (words words' : List ℕ) (of : seen.of ≡ parts.clock.of) (of' : seen'.of ≡ seen.of)
    (ports : ArePresented seen.of s.values c parts.inputs (carried seen) words) (registers : Agree (names_of seen.of.registers) (carried parts.clock) (carried seen))
    (settled : Settled seen'.of (carried seen')) (given : Agree (given_names seen'.of) (carried seen) (carried seen'))
    (shown : words' ≡ port_words (carried seen') (header_ports seen'.of)) where
  first_at : seen.of ≡ m
  first_at = of ∙ running.prepared.clock

  then_at : seen'.of ≡ m
  then_at = of' ∙ first_at

  agrees : ForRuns m s (λ run. c < s.cycles → Agree (all_names m) (carried seen') (run.in_cycle c))
  agrees =
      let here = subst (λ x. ArePresented x s.values c parts.inputs (carried seen) words) first_at ports in
      let kept = subst (λ x. Agree (names_of x.registers) (carried parts.clock) (carried seen)) first_at registers in
      let inputs = presented m s c (carried seen) (λ k port e. (here k port (let w = slice_get_within m.inputs k port e in let n = running.prepared.count in omega (arith, w, n)) e).0) in
      settled_cycle m s c (carried seen) (carried seen') running.prepared.sound inputs (λ stream run stimulated is lt k d at. sym (kept k d at) ∙ running.registers stream run stimulated is lt k d at)
      (subst (λ x. Agree (given_names x) (carried seen) (carried seen')) then_at given) (subst (λ x. Settled x (carried seen')) then_at settled)

  line_is : ForRuns m s (λ run. c < s.cycles → cycle_line c parts.ports words' ≡ words_line m (run.in_cycle c) c)
  line_is = λ stream run stimulated is lt.
      ap (λ (ps : List Port). cycle_line c ps words') running.prepared.ports ∙ ap (cycle_line c (header_ports m)) (shown ∙ ap (λ (x : Module). port_words (carried seen') (header_ports x)) then_at)
      ∙ shown_line m s c (carried seen') agrees stream run stimulated is lt

  pub fails : (held'' : Option (List ℕ)) → AddsPrefix sink'.held held'' (cycle_line c parts.ports words') → ForRuns m s (λ run. AddsPrefix sink.held held'' (run_lines m run.in_cycle s.cycles))
  fails held'' front = front_added m s c sink.held sink'.held held'' (cycle_line c parts.ports words') lt running.written front line_is

  pub turns : (seen'' : Seen) (next' : ℕ) (sink'' : SinkState) → seen''.of ≡ seen'.of → Edge seen''.of false (carried seen') (carried seen'') → Adds sink'.held sink''.held (cycle_line c parts.ports words') → sink'.faults ≤ sink''.faults
      → AreLeft seen.of.inputs s.values (c + 1) 0 (drop next' s.values) → next' ≤ length s.values
      → IsRunning m s (c + 1) (record { clock = seen''; ports = parts.ports; wires = parts.wires; words = words'; inputs = parts.inputs }) next' sink sink''
  turns seen'' next' sink'' of'' edge adds later left within = record {
    prepared = record {
      sound = running.prepared.sound;
      clock = of'' ∙ then_at;
      ports = running.prepared.ports;
      wires = running.prepared.wires;
      room = ap length (shown ∙ ap (λ (x : Module). port_words (carried seen') (header_ports x)) then_at) ∙ length-map (header_ports m) (λ (port : Port). carried seen' port.name);
      count = running.prepared.count;
    };
    written = line_added m s c sink.held sink'.held sink''.held (cycle_line c parts.ports words') lt running.written adds line_is;
    registers = tick_registers m s c (carried seen') (carried seen'') running.prepared.sound (subst (λ x. Edge x false (carried seen') (carried seen'')) (of'' ∙ then_at) edge) agrees;
    left = subst (λ (x : Module). AreLeft x.inputs s.values (c + 1) 0 (drop next' s.values)) first_at left;
    within = within;
    later = (let l = running.later in omega (arith, l, later));
  }
