-- A run that is clocked and recorded cycle by cycle.
use Rattle.std.proofs.Common.{◌≡◌, ℕ, ◌+◌, ◌<◌, ◌≤◌, true, false, List, [], ◌∷◌, ◌++◌, length, get_or, take, drop, Some, slice_get, refl, sym, ap, ◌∙◌, subst, arith, inl, inr, length-append, Bool}
use Rattle.std.specs.Prelude.{All, Contains, slice_index, nat_le}
use Rattle.std.specs.List.{AllByRecursion}
use Rattle.std.proofs.lemmas.Bool.{cases_lt, le-leb, leb-true}
use Rattle.std.proofs.lemmas.List.{append-nil, length-map, map-append}
use Rattle.std.proofs.lemmas.List.Elements.{All-map, All-contains, Contains-append_left, Contains-append_cases, recursion_from_All}
use Rattle.std.proofs.lemmas.Option.{slice_get-get_or, slice_get_within, get_or_from_slice_get}
use Rattle.av_base.specs.Words.{IsWord}
use Rattle.av_base.proofs.Lists.{each_append, each_weaker, get_mapped, there_is}
use Rattle.av_net.specs.declared.netlist.Port.{Port}
use Rattle.av_net.specs.declared.netlist.Module.{Module}
use Rattle.av_net.specs.Meaning.{Words}
use Rattle.av_net.specs.Names.{AreDistinct, clk, rst, names_of, given_names, wire_names, all_names, declarations, width_of}
use Rattle.av_net.specs.Settled.{Settled, Agree}
use Rattle.av_net.specs.Clocked.{Edge, FitPorts}
use Rattle.av_net.specs.Designs.{HasSpelling}
use Rattle.av_net.specs.Lexemes.{IsName}
use Rattle.av_net.proofs.Declared.{declared_width, input_declared, output_declared}
use Rattle.av_net.proofs.Distinct.{apart, front_distinct, rest_distinct, append_distinct}
use Rattle.av_net.proofs.RunFits.{runs_fit}
use Rattle.av_net.specs.Sound.{IsSound}
use Rattle.av_net.proofs.Cycles.{has_runs}
use Rattle.av_clock.specs.Seen.{Seen, carried}
use Rattle.av_data.specs.declared.stimulus.Stimulus.{Stimulus}
use Rattle.av_data.proofs.Lined.{name_there}
use Rattle.av_wave.specs.declared.wave.Change.{Change}
use Rattle.av_wave.specs.Waves.{Recording, zeros, all_changed, changes_to, values_in}
use Rattle.av_wave.specs.Simulated.{header_ports, port_words}
use Rattle.av_wave.specs.Recorded.{IsFor, IsRecorded, IsCaptured}
use Rattle.av_wave.specs.Clocking.{ForRuns, AreLeft, ArePresented}
use Rattle.av_wave.specs.inner.Capturing.{AreValues, IsCapturing}
use Rattle.av_wave.specs.inner.Parts.{Part, IsPart, IsPast, Records, FitsPort, at_first, wave_of}
use Rattle.av_wave.proofs.PartSteps.{part_wave}
use Rattle.av_wave.proofs.Walking.{given_fits, all_left}
use Rattle.av_wave.proofs.Presenting.{words_noted}
use Rattle.av_wave.proofs.Cycling.{tick_registers, presented, settled_cycle, header_named, stream_of, is_stream}
use Rattle.av_wave.proofs.Values.{to_on}

-- ---- changes by cycles

to_all : (c : ℕ) (gs : List Change) → AllByRecursion (λ g. g.cycle ≤ c) gs → changes_to c gs ≡ gs
to_all c [] all = refl
to_all c (g ∷ gs) all = rw (le-leb g.cycle c all.0) (ap (λ rest. g ∷ rest) (to_all c gs all.1))

to_none : (c d : ℕ) (gs : List Change) → d < c → AllByRecursion (λ g. g.cycle ≡ c) gs → changes_to d gs ≡ []
to_none c d [] lt all = refl
to_none c d (g ∷ gs) lt all = by_test (nat_le g.cycle d) refl (to_none c d gs lt all.1)
  where
    by_test : (t : Bool) → nat_le g.cycle d ≡ t → changes_to d gs ≡ [] → changes_to d (g ∷ gs) ≡ []
    by_test true e rest = absurd (let le : g.cycle ≤ d = leb-true g.cycle d e in let is : g.cycle ≡ c = all.0 in omega arith)
    by_test false e rest = rw e rest

past_to : (p : Part) (c : ℕ) → p.cycle ≡ c → p.told ≡ 0 → (g : Change) → IsPast p g → g.cycle ≤ c
past_to p c here none g (inl before) = omega arith
past_to p c here none g (inr (same, below)) = omega arith

values_before : (c d : ℕ) (gs more : List Change) (k : ℕ) → d < c → AllByRecursion (λ g. g.cycle ≡ c) more → values_in (gs ++ more) d k ≡ values_in gs d k
values_before c d gs more k lt here = ap (λ (changes : List Change). all_changed zeros changes k) (to_on d gs more ∙ ap (λ rest. changes_to d gs ++ rest) (to_none c d more lt here) ∙ append-nil (changes_to d gs))

-- ---- a cycle is recorded

-- the values that were recorded are those of the run
values_on : (m : Module) (s : Stimulus) (c : ℕ) (p q : Part) (v : Words) (words : List ℕ) → IsPart p → p.cycle ≡ c → p.told ≡ 0 → p.ports ≡ header_ports m → Records p words q → words ≡ port_words v (header_ports m)
    → c < s.cycles → ForRuns m s (λ run. c < s.cycles → Agree (all_names m) v (run.in_cycle c)) → ForRuns m s (AreValues m p c) → ForRuns m s (AreValues m q (c + 1))
values_on m s c p q v words part cycle told ports records shown lt agrees values = λ stream run stimulated is d k port within there. elim (cases_lt d c) [
  | inl before ↦
      ap (λ (gs : List Change). values_in gs d k) records.changes
      ∙ values_before c d p.changes records.more k before (each_weaker (λ (g : Change). g.cycle ≡ p.cycle) (λ (g : Change). g.cycle ≡ c) (λ g e. e ∙ cycle) records.more records.here)
      ∙ values stream run stimulated is d k port before there
  | inr now ↦
      let same : d ≡ c = omega (arith, now, within) in
      let old : AllByRecursion (λ g. g.cycle ≤ c) p.changes = each_weaker (IsPast p) (λ (g : Change). g.cycle ≤ c) (past_to p c cycle told) p.changes (recursion_from_All (IsPast p) p.changes part.past) in
      let new : AllByRecursion (λ g. g.cycle ≤ c) records.more = each_weaker (λ (g : Change). g.cycle ≡ p.cycle) (λ (g : Change). g.cycle ≤ c) (λ g e. omega (arith, e, cycle)) records.more records.here in
      let all : AllByRecursion (λ g. g.cycle ≤ c) q.changes = subst (AllByRecursion (λ g. g.cycle ≤ c)) (sym records.changes) (each_append (λ g. g.cycle ≤ c) p.changes records.more old new) in
      let room : k < length p.ports = omega (arith, slice_get_within (header_ports m) k port there, ap length ports) in
      let word : slice_index words k ≡ v port.name =
      ap (λ (ws : List ℕ). slice_index ws k) shown ∙ get_or_from_slice_get (port_words v (header_ports m)) k (v port.name) 0 (get_mapped (λ (x : Port). v x.name) (header_ports m) k port there) in
      ap (λ (e : ℕ). values_in q.changes e k) same
      ∙ ap (λ (gs : List Change). all_changed zeros gs k) (to_all c q.changes all)
      ∙ records.values k room ∙ word
      ∙ All-contains (λ name. v name ≡ run.in_cycle c name) (all_names m) port.name (agrees stream run stimulated is lt) (All-at k port there)
      ∙ ap (λ (e : ℕ). run.in_cycle e port.name) (sym same)
]
  where
    All-at : (k : ℕ) (port : Port) → slice_get (header_ports m) k ≡ Some port → Contains (all_names m) port.name
    All-at k port there = subst (λ (x : Port). Contains (all_names m) x.name) (get_or_from_slice_get (header_ports m) k port port there) (header_named m k port (slice_get_within (header_ports m) k port there))

-- the words noted of the input ports are those of the settled clock
pub inputs_noted : (m : Module) (s : Stimulus) (c inputs : ℕ) (seen seen' : Seen) (words : List ℕ) → inputs ≡ length m.inputs → length words ≡ length (header_ports m) → seen.of ≡ m → seen'.of ≡ seen.of
    → ArePresented seen.of s.values c inputs (carried seen) words → Agree (given_names seen'.of) (carried seen) (carried seen') → take inputs words ≡ port_words (carried seen') seen'.of.inputs
inputs_noted m s c inputs seen seen' words count room of of' presented agree =
    let at : seen'.of ≡ m = of' ∙ of in
    let here = subst (λ x. ArePresented x s.values c inputs (carried seen) words) of presented in
    let same = subst (λ x. Agree (given_names x) (carried seen) (carried seen')) at agree in
    let each : (k : ℕ) (port : Port) → slice_get m.inputs k ≡ Some port → get_or words k 0 ≡ carried seen' port.name = λ k port e.
    let lt : k < inputs = (let w = slice_get_within m.inputs k port e in omega (arith, w, count)) in
    let both = here k port lt e in
    both.1 ∙ sym both.0 ∙ All-contains (λ name. carried seen name ≡ carried seen' name) (given_names m) port.name same (Contains-append_left (names_of m.inputs) (names_of m.registers) port.name (name_there m.inputs k port e)) in
    let long : length m.inputs ≤ length words = (let a = length-append m.inputs m.outputs in omega (arith, a, room)) in
    ap (λ n. take n words) count ∙ words_noted m.inputs (λ port. carried seen' port.name) words long each ∙ ap (λ (x : Module). port_words (carried seen') x.inputs) (sym at)

-- the words of the settled clock are those of the run
pub agrees_now : (m : Module) (s : Stimulus) (c inputs : ℕ) (clock seen seen' : Seen) (words : List ℕ) → IsSound m → inputs ≡ length m.inputs → clock.of ≡ m
    → ForRuns m s (λ run. c < s.cycles → Agree (names_of m.registers) (carried clock) (run.in_cycle c))
    → seen.of ≡ clock.of → seen'.of ≡ seen.of → ArePresented seen.of s.values c inputs (carried seen) words → Agree (names_of seen.of.registers) (carried clock) (carried seen)
    → Settled seen'.of (carried seen') → Agree (given_names seen'.of) (carried seen) (carried seen') → ForRuns m s (λ run. c < s.cycles → Agree (all_names m) (carried seen') (run.in_cycle c))
agrees_now m s c inputs clock seen seen' words sound count at_clock so_far of of' ports registers settled given =
    let first_at : seen.of ≡ m = of ∙ at_clock in
    let then_at : seen'.of ≡ m = of' ∙ first_at in
    let here = subst (λ x. ArePresented x s.values c inputs (carried seen) words) first_at ports in
    let kept = subst (λ x. Agree (names_of x.registers) (carried clock) (carried seen)) first_at registers in
    let inputs_are = presented m s c (carried seen) (λ k port e. (here k port (let w = slice_get_within m.inputs k port e in omega (arith, w, count)) e).0) in
    settled_cycle m s c (carried seen) (carried seen') sound inputs_are (λ stream run stimulated is lt k d at. sym (kept k d at) ∙ so_far stream run stimulated is lt k d at)
    (subst (λ x. Agree (given_names x) (carried seen) (carried seen')) then_at given) (subst (λ x. Settled x (carried seen')) then_at settled)

-- and fit the ports of the header
named_fits : (m : Module) (s : Stimulus) (c : ℕ) (v : Words) → IsSound m → IsFor m.inputs s → c < s.cycles → ForRuns m s (λ run. c < s.cycles → Agree (all_names m) v (run.in_cycle c))
    → (port : Port) → Contains (all_names m) port.name → Contains (declarations m) port → IsWord port.width.bits (v port.name)
named_fits m s c v sound for lt agrees port named declared =
    let stream = stream_of m s in
    let stimulated = is_stream m s sound in
    let (run, clocked, before) = has_runs m sound s.cycles stream (λ name. 0) in
    let fits : (d : ℕ) → d < s.cycles → FitPorts m (stream.in_cycle d) = λ d within k e at.
    let input = get_or m.inputs k e in
    let there = slice_get-get_or m.inputs k e at in
    subst (λ (n : ℕ). IsWord input.width.bits n) (sym (stimulated.in_cycles d k input there)) (given_fits m.inputs s.values d k input for.fit there) in
    let all = runs_fit m sound s.cycles stream run clocked fits c lt in
    let same : v port.name ≡ run.in_cycle c port.name = All-contains (λ name. v name ≡ run.in_cycle c name) (all_names m) port.name (agrees stream run stimulated clocked lt) named in
    let word : IsWord (width_of m port.name) (run.in_cycle c port.name) = All-contains (λ name. IsWord (width_of m name) (run.in_cycle c name)) (all_names m) port.name all named in
    subst (λ (w : ℕ). IsWord w (v port.name)) (declared_width m sound port declared) (subst (λ (n : ℕ). IsWord (width_of m port.name) n) (sym same) word)

header_declared : (m : Module) (k : ℕ) (port : Port) → slice_get (header_ports m) k ≡ Some port → Contains (declarations m) port
header_declared m k port there =
    let at : Contains (m.inputs ++ m.outputs) port = (k, slice_get_within (header_ports m) k port there, get_or_from_slice_get (header_ports m) k port port there) in
    elim (Contains-append_cases m.inputs m.outputs port at) [
      | inl input ↦ input_declared m port input
      | inr output ↦ output_declared m port output
    ]

pub shown_fits : (m : Module) (s : Stimulus) (c : ℕ) (v : Words) (words : List ℕ) (ports : List Port) → IsSound m → IsFor m.inputs s → c < s.cycles → ForRuns m s (λ run. c < s.cycles → Agree (all_names m) v (run.in_cycle c))
    → words ≡ port_words v (header_ports m) → ports ≡ header_ports m → (k : ℕ) → k < length words → FitsPort ports k (slice_index words k)
shown_fits m s c v words ports sound for lt agrees is same k within =
    let long : length words ≡ length (header_ports m) = ap length is ∙ length-map (header_ports m) (λ (port : Port). v port.name) in
    let found = there_is (header_ports m) k (omega arith) in
    let port : Port = found.0 in
    let there : slice_get (header_ports m) k ≡ Some port = found.1 in
    let word : slice_index words k ≡ v port.name =
    ap (λ (ws : List ℕ). slice_index ws k) is ∙ get_or_from_slice_get (port_words v (header_ports m)) k (v port.name) 0 (get_mapped (λ (x : Port). v x.name) (header_ports m) k port there) in
    let named : Contains (all_names m) port.name =
    subst (λ (x : Port). Contains (all_names m) x.name) (get_or_from_slice_get (header_ports m) k port port there) (header_named m k port (slice_get_within (header_ports m) k port there)) in
    record {
      port = port;
      at = ap (λ (ps : List Port). slice_get ps k) same ∙ there;
      fits = subst (λ (n : ℕ). IsWord port.width.bits n) (sym word) (named_fits m s c v sound for lt agrees port named (header_declared m k port there));
    }

-- the words that are noted
pub shown_here : (m : Module) (seen : Seen) (words : List ℕ) → seen.of ≡ m → words ≡ port_words (carried seen) (header_ports seen.of) → words ≡ port_words (carried seen) (header_ports m)
shown_here m seen words of shown = shown ∙ ap (λ (x : Module). port_words (carried seen) (header_ports x)) of

pub shown_long : (m : Module) (seen : Seen) (words : List ℕ) → words ≡ port_words (carried seen) (header_ports m) → length words ≡ length (header_ports m)
shown_long m seen words shown = ap length shown ∙ length-map (header_ports m) (λ (port : Port). carried seen port.name)

pub captures_on : (m : Module) (s : Stimulus) (c inputs next next' : ℕ) (clock seen seen' clock' : Seen) (before words words' : List ℕ) (p q : Part) → IsSound m → IsPart p → inputs ≡ length m.inputs → IsCapturing m s c clock before p next → c < s.cycles
    → seen.of ≡ clock.of → seen'.of ≡ seen.of → clock'.of ≡ seen'.of
    → ArePresented seen.of s.values c inputs (carried seen) words → Agree (names_of seen.of.registers) (carried clock) (carried seen)
    → Settled seen'.of (carried seen') → Agree (given_names seen'.of) (carried seen) (carried seen')
    → words' ≡ port_words (carried seen') (header_ports seen'.of) → Records p words' q → Edge clock'.of false (carried seen') (carried clock')
    → AreLeft seen.of.inputs s.values (c + 1) 0 (drop next' s.values) → next' ≤ length s.values
    → IsCapturing m s (c + 1) clock' words' q next'
captures_on m s c inputs next next' clock seen seen' clock' before words words' p q sound part count so_far lt of of' of'' ports registers settled given shown records edge left within =
    let first_at : seen.of ≡ m = of ∙ so_far.of in
    let then_at : seen'.of ≡ m = of' ∙ first_at in
    let agrees = agrees_now m s c inputs clock seen seen' words sound count so_far.of so_far.registers of of' ports registers settled given in
    let shown_at : words' ≡ port_words (carried seen') (header_ports m) = shown_here m seen' words' then_at shown in
    record {
      of = of'' ∙ then_at;
      room = shown_long m seen' words' shown_at;
      name = records.name ∙ so_far.name;
      ports = records.ports ∙ so_far.ports;
      cycle = records.cycle ∙ ap (λ n. n + 1) so_far.cycle;
      told = records.told;
      values = values_on m s c p q (carried seen') words' part so_far.cycle so_far.told so_far.ports records shown_at lt agrees so_far.values;
      registers = tick_registers m s c (carried seen') (carried clock') sound (subst (λ x. Edge x false (carried seen') (carried clock')) (of'' ∙ then_at) edge) agrees;
      left = subst (λ (x : Module). AreLeft x.inputs s.values (c + 1) 0 (drop next' s.values)) first_at left;
      within = within;
    }

-- ---- the whole run

pub captured : (m : Module) (s : Stimulus) (c : ℕ) (clock : Seen) (words : List ℕ) (p : Part) (next : ℕ) (w : Recording) → IsSound m → IsPart p → IsCapturing m s c clock words p next → c ≡ s.cycles → w ≡ wave_of p → IsCaptured m s w
captured m s c clock words p next w sound part so_far all is =
    let stream = stream_of m s in
    let stimulated = is_stream m s sound in
    let (run, clocked, before) = has_runs m sound s.cycles stream (λ name. 0) in
    let recorded : IsRecorded m run.in_cycle s.cycles (wave_of p) = record {
      is = part_wave p part so_far.told;
      name = so_far.name;
      ports = so_far.ports;
      cycles = so_far.cycle ∙ all;
      values = λ d k port lt there. so_far.values stream run stimulated clocked d k port (omega (arith, lt, all)) there;
    } in
    record {
      stream = stream;
      run = run;
      stimulated = stimulated;
      powered = λ k d lt. ap (λ (v : Words). v (get_or m.registers k d).name) before;
      clocked = clocked;
      recorded = subst (IsRecorded m run.in_cycle s.cycles) (sym is) recorded;
    }

-- ---- a module's name and ports

pub header_apart : (m : Module) → IsSound m → AreDistinct (names_of (header_ports m))
header_apart m sound =
    let all : AreDistinct (given_names m ++ wire_names m) = rest_distinct (clk ∷ rst ∷ []) (all_names m) sound.declared_once in
    let given = front_distinct (given_names m) (wire_names m) all in
    let inputs = front_distinct (names_of m.inputs) (names_of m.registers) given in
    let outputs = front_distinct (names_of m.outputs) (names_of m.wires) (rest_distinct (given_names m) (wire_names m) all) in
    let none : (name : List ℕ) → Contains (names_of m.inputs) name → Contains (names_of m.outputs) name → ⊥ = λ name a b.
    apart (given_names m) (wire_names m) name all (Contains-append_left (names_of m.inputs) (names_of m.registers) name a) (Contains-append_left (names_of m.outputs) (names_of m.wires) name b) in
    subst AreDistinct (sym (map-append (λ (port : Port). port.name) m.inputs m.outputs)) (append_distinct (names_of m.inputs) (names_of m.outputs) inputs outputs none)

pub header_spelled : (m : Module) → HasSpelling m → All IsName (names_of (header_ports m))
header_spelled m spelled =
    All-map IsName (λ (port : Port). port.name) (header_ports m) (λ k d lt. All-contains IsName (all_names m) (get_or (header_ports m) k d).name spelled.names (header_named m k d lt))

pub starts_capturing : (m : Module) (s : Stimulus) (clock : Seen) (words : List ℕ) (p : Part) (ports : List Port) (name : List ℕ) → IsSound m → IsFor m.inputs s → clock.of ≡ m
    → ForRuns m s (λ run. 0 < s.cycles → Agree (names_of m.registers) (carried clock) (run.in_cycle 0)) → length words ≡ length ports → p ≡ at_first name ports → name ≡ m.name → ports ≡ header_ports m
    → IsCapturing m s 0 clock words p 0
starts_capturing m s clock words p ports name sound for of registers long first named are = record {
  of = of;
  room = long ∙ ap length are;
  name = ap (λ (q : Part). q.name) first ∙ named;
  ports = ap (λ (q : Part). q.ports) first ∙ are;
  cycle = ap (λ (q : Part). q.cycle) first;
  told = ap (λ (q : Part). q.told) first;
  values = λ stream run stimulated is d k port lt there. absurd (omega arith);
  registers = registers;
  left = all_left m.inputs s for;
  within = omega arith;
}
