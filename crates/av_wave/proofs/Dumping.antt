-- A run that is clocked and put on a page as a dump, cycle by cycle.
use Rattle.std.proofs.Common.{◌≡◌, ℕ, ◌+◌, ◌<◌, ◌≤◌, false, List, [], ◌∷◌, ◌++◌, length, drop, replicate, refl, sym, ap, ◌∙◌, subst, arith}
use Rattle.std.specs.Prelude.{slice_index}
use Rattle.std.proofs.lemmas.List.{get_or-replicate, length-replicate}
use Rattle.av_base.specs.Outside.{SinkState}
use Rattle.av_page.specs.Pages.{Draft, Puts}
use Rattle.av_page.proofs.Putting.{Puts-more, Puts-is}
use Rattle.av_net.specs.declared.netlist.Port.{Port}
use Rattle.av_net.specs.declared.netlist.Module.{Module}
use Rattle.av_net.specs.Names.{names_of, given_names, all_names}
use Rattle.av_net.specs.Settled.{Settled, Agree}
use Rattle.av_net.specs.Clocked.{Edge}
use Rattle.av_net.specs.Designs.{HasSpelling}
use Rattle.av_net.specs.Sound.{IsSound}
use Rattle.av_clock.specs.Seen.{Seen, carried}
use Rattle.av_data.specs.declared.stimulus.Stimulus.{Stimulus}
use Rattle.av_wave.specs.declared.run.PreparedRun.{PreparedRun}
use Rattle.av_wave.specs.Simulated.{header_ports, port_words}
use Rattle.av_wave.specs.Recorded.{IsFor}
use Rattle.av_wave.specs.Clocking.{ForRuns, AreLeft, ArePresented, AreWires}
use Rattle.av_wave.specs.Dumps.{time_line, head_lines, joined}
use Rattle.av_wave.specs.inner.Capturing.{IsCapturing}
use Rattle.av_wave.specs.inner.Heads.{IsHead}
use Rattle.av_wave.specs.inner.Parts.{Part, HasWords, at_first, wave_of}
use Rattle.av_wave.specs.inner.Running.{IsPrepared, PutsDump}
use Rattle.av_wave.proofs.PartSteps.{words_first}
use Rattle.av_wave.proofs.Written.{joined_one}
use Rattle.av_wave.proofs.Reached.{Tells, start_tells, told_lines}
use Rattle.av_wave.proofs.Capturing.{header_apart, header_spelled, starts_capturing, captures_on, captured, agrees_now, shown_here, shown_long, shown_fits}
use Rattle.av_wave.proofs.News.{MayTell, cycle_tells, news_lines, cycle_news, cycle_text}

-- c cycles were put, by lines that tell of a part of a wave, and the registers have the words of the next one
pub record IsDumping (m : Module) (s : Stimulus) (c : ℕ) (parts : PreparedRun) (next : ℕ) (sink sink' : SinkState) (old new : Draft) : Type 0 where
  pub prepared : IsPrepared m parts
  pub part : Part
  pub lines : List (List ℕ)
  pub capturing : IsCapturing m s c parts.clock parts.words part next
  pub tells : Tells part lines
  pub has : HasWords part parts.before
  pub put : Puts sink sink' old new (joined lines)

-- ---- at first

-- the lines of the head, and the one that begins the first cycle
abbrev first_lines : Module → List (List ℕ)
first_lines m = head_lines m.name (header_ports m) ++ time_line 0 ∷ []

first_head : (m : Module) → IsSound m → HasSpelling m → IsHead (record { name = m.name; ports = header_ports m })
first_head m sound spelled = record { named = spelled.module_name; ports_named = header_spelled m spelled; apart = header_apart m sound }

zeros_has : (m : Module) (before : List ℕ) → before ≡ replicate (length (header_ports m)) 0 → HasWords (at_first m.name (header_ports m)) before
zeros_has m before is =
    let n : ℕ = length (header_ports m) in
    words_first m.name (header_ports m) before (ap length is ∙ length-replicate n 0) (λ k lt. ap (λ (ws : List ℕ). slice_index ws k) is ∙ get_or-replicate n k 0 0 lt)

pub starts_dumping : (m : Module) (s : Stimulus) (parts' : PreparedRun) {sink sink' sink'' : SinkState} {old mid new : Draft} (ports : List Port) → IsSound m → HasSpelling m → IsFor m.inputs s → IsPrepared m parts'
    → ForRuns m s (λ run. 0 < s.cycles → Agree (names_of m.registers) (carried parts'.clock) (run.in_cycle 0)) → parts'.before ≡ replicate (length (header_ports m)) 0 → ports ≡ header_ports m
    → Puts sink sink' old mid (joined (head_lines m.name ports)) → Puts sink' sink'' mid new (time_line 0) → IsDumping m s 0 parts' 0 sink sink'' old new
starts_dumping m s parts' ports sound spelled for prepared registers before are head time =
    let front : List (List ℕ) = head_lines m.name (header_ports m) in
    let text : joined (head_lines m.name ports) ++ time_line 0 ≡ joined (first_lines m) = ap (λ (ps : List Port). joined (head_lines m.name ps) ++ time_line 0) are ∙ sym (joined_one front (time_line 0)) in
    record {
      prepared = prepared;
      part = at_first m.name (header_ports m);
      lines = first_lines m;
      capturing = starts_capturing m s parts'.clock parts'.words (at_first m.name (header_ports m)) (header_ports m) m.name sound for prepared.clock registers prepared.room refl refl refl;
      tells = start_tells (record { name = m.name; ports = header_ports m }) front (first_head m sound spelled) refl;
      has = zeros_has m parts'.before before;
      put = Puts-is (Puts-more head time) text;
    }

-- ---- a cycle

-- what is known once the clock has settled in a cycle and its words are noted
pub record IsShown (m : Module) (s : Stimulus) (c inputs : ℕ) (clock seen seen' : Seen) (words words' : List ℕ) : Type 0 where
  pub of : seen.of ≡ clock.of
  pub of' : seen'.of ≡ seen.of
  pub ports : ArePresented seen.of s.values c inputs (carried seen) words
  pub registers : Agree (names_of seen.of.registers) (carried clock) (carried seen)
  pub settled : Settled seen'.of (carried seen')
  pub given : Agree (given_names seen'.of) (carried seen) (carried seen')
  pub shown : words' ≡ port_words (carried seen') (header_ports seen'.of)

module _ (m : Module) (s : Stimulus) (c : ℕ) (parts : PreparedRun) (next : ℕ) (sink sink' : SinkState) (old mid : Draft) (so_far : IsDumping m s c parts next sink sink' old mid)
    (for : IsFor m.inputs s) (lt : c < s.cycles) (seen seen' : Seen) (words words' : List ℕ) (shows : IsShown m s c parts.inputs parts.clock seen seen' words words') where
  shown : words' ≡ port_words (carried seen') (header_ports m)
  shown = shown_here m seen' words' (shows.of' ∙ shows.of ∙ so_far.prepared.clock) shows.shown

  agrees : ForRuns m s (λ run. c < s.cycles → Agree (all_names m) (carried seen') (run.in_cycle c))
  agrees = agrees_now m s c parts.inputs parts.clock seen seen' words so_far.prepared.sound so_far.prepared.count so_far.prepared.clock so_far.capturing.registers shows.of shows.of' shows.ports shows.registers shows.settled shows.given

  may_tell : MayTell so_far.part parts.before words'
  may_tell =
      let same : so_far.part.ports ≡ header_ports m = so_far.capturing.ports in
      let fits = shown_fits m s c (carried seen') words' so_far.part.ports so_far.prepared.sound for lt agrees shown same in
      record {
        fresh = so_far.capturing.told;
        most = omega (arith, so_far.capturing.cycle, lt, for.most);
        count = shown_long m seen' words' shown ∙ ap (λ (ps : List Port). length ps) (sym same);
        has = so_far.has;
        fits = fits;
      }

  -- the cycle is put, and the clock goes on
  pub dumps_on : (clock' : Seen) (parts' : PreparedRun) (next' : ℕ) {sink'' sink''' : SinkState} {late new : Draft} (ports : List Port) (before noted : List ℕ) → parts'.clock ≡ clock' → parts'.ports ≡ parts.ports → parts'.wires ≡ parts.wires
      → parts'.inputs ≡ parts.inputs → parts'.words ≡ parts.before → parts'.before ≡ words' → ports ≡ parts.ports → before ≡ parts.before → noted ≡ words' → clock'.of ≡ seen'.of → Edge clock'.of false (carried seen') (carried clock')
      → AreLeft seen.of.inputs s.values (c + 1) 0 (drop next' s.values) → next' ≤ length s.values
      → Puts sink' sink'' mid late (joined (news_lines ports c before noted (length noted))) → Puts sink'' sink''' late new (time_line (c + 1)) → IsDumping m s (c + 1) parts' next' sink sink''' old new
  dumps_on clock' parts' next' {sink''} {sink'''} {late} {new} ports before noted clock ports_same wires inputs swapped kept as_ports as_before as_noted of'' edge left within cycle time =
      let p : Part = so_far.part in
      let told = cycle_tells p so_far.lines parts.before words' may_tell so_far.tells in
      let q : Part = told.now in
      let goes = captures_on m s c parts.inputs next next' parts.clock seen seen' clock' parts.words words words' p q so_far.prepared.sound so_far.tells.part so_far.prepared.count so_far.capturing lt
      shows.of shows.of' of'' shows.ports shows.registers shows.settled shows.given shows.shown told.records edge left within in
      let here : parts.ports ≡ p.ports = so_far.prepared.ports ∙ sym so_far.capturing.ports in
      let at : c ≡ p.cycle = sym so_far.capturing.cycle in
      let first : joined (news_lines ports c before noted (length noted)) ≡ joined (news_lines p.ports p.cycle parts.before words' (length words')) =
      ap (λ (ps : List Port). joined (news_lines ps c before noted (length noted))) (as_ports ∙ here)
      ∙ ap (λ (k : ℕ). joined (news_lines p.ports k before noted (length noted))) at
      ∙ ap (λ (ws : List ℕ). joined (news_lines p.ports p.cycle ws noted (length noted))) as_before
      ∙ ap (λ (ws : List ℕ). joined (news_lines p.ports p.cycle parts.before ws (length ws))) as_noted in
      let last : time_line (c + 1) ≡ time_line (p.cycle + 1) = ap (λ (k : ℕ). time_line (k + 1)) at in
      record {
        prepared = record {
          sound = so_far.prepared.sound;
          clock = ap (λ (x : Seen). x.of) clock ∙ of'' ∙ shows.of' ∙ shows.of ∙ so_far.prepared.clock;
          ports = ports_same ∙ so_far.prepared.ports;
          wires = subst (AreWires m (length m.outputs)) (sym wires) so_far.prepared.wires;
          room = ap length swapped ∙ so_far.has.count ∙ ap (λ (ps : List Port). length ps) so_far.capturing.ports;
          count = inputs ∙ so_far.prepared.count;
        };
        part = q;
        lines = so_far.lines ++ cycle_news p parts.before words';
        capturing = subst (λ (x : Seen). IsCapturing m s (c + 1) x parts'.words q next') (sym clock) (record {
          of = goes.of;
          room = ap length swapped ∙ so_far.has.count ∙ ap (λ (ps : List Port). length ps) so_far.capturing.ports;
          name = goes.name;
          ports = goes.ports;
          cycle = goes.cycle;
          told = goes.told;
          values = goes.values;
          registers = goes.registers;
          left = goes.left;
          within = goes.within;
        });
        tells = told.tells;
        has = subst (HasWords q) (sym kept) told.has;
        put = Puts-is (Puts-more (Puts-more so_far.put (Puts-is cycle first)) (Puts-is time last)) (cycle_text p so_far.lines parts.before words');
      }

-- ---- the whole run

pub dumped : {m : Module} {s : Stimulus} {c : ℕ} {parts : PreparedRun} {next : ℕ} {sink sink' : SinkState} {old new : Draft} → IsDumping m s c parts next sink sink' old new → c ≡ s.cycles → PutsDump m s sink sink' old new
dumped {m = m} {s = s} {c = c} {parts = parts} {next = next} so_far all = record {
  wave = wave_of so_far.part;
  captured = captured m s c parts.clock parts.words so_far.part next (wave_of so_far.part) so_far.prepared.sound so_far.tells.part so_far.capturing all refl;
  put = Puts-is so_far.put (ap joined (told_lines so_far.part so_far.lines so_far.tells so_far.capturing.told));
}
