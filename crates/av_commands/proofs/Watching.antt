-- A module that is clocked while wires of it are watched.
use Rattle.std.proofs.Common.{◌≡◌, ℕ, ◌+◌, ◌<◌, ◌≤◌, false, List, length, get_or, drop, Some, slice_get, sym, ap, ◌∙◌, subst, arith}
use Rattle.std.specs.Prelude.{All, Contains}
use Rattle.std.proofs.lemmas.Option.{slice_get_within}
use Rattle.av_base.specs.declared.word.Word.{Word}
use Rattle.av_net.specs.declared.netlist.Port.{Port}
use Rattle.av_net.specs.declared.netlist.Module.{Module}
use Rattle.av_net.specs.declared.design.Entry.{Entry}
use Rattle.av_net.specs.declared.design.Design.{Design}
use Rattle.av_net.specs.Meaning.{Words}
use Rattle.av_net.specs.Shown.{Values}
use Rattle.av_net.proofs.Cycles.{has_runs}
use Rattle.av_net.specs.Names.{names_of, given_names, all_names}
use Rattle.av_net.specs.Settled.{Settled, Agree}
use Rattle.av_net.specs.Clocked.{Stream, Run, IsRun, Edge}
use Rattle.av_net.specs.Sound.{IsSound}
use Rattle.av_clock.specs.Seen.{Seen, carried}
use Rattle.av_data.specs.declared.stimulus.Stimulus.{Stimulus}
use Rattle.av_wave.specs.Simulated.{IsStimulated}
use Rattle.av_wave.specs.Clocking.{ForRuns, AreLeft, ArePresented}
use Rattle.av_commands.specs.Shown.{IsFedRun, AreShown}
use Rattle.av_commands.specs.inner.Feeding.{AreOfLines}
use Rattle.av_commands.specs.inner.Watching.{bits_of, noted, watched}
use Rattle.av_wave.proofs.Cycling.{presented, settled_cycle, tick_registers, stream_of, is_stream}
use Rattle.av_commands.proofs.Watched.{agree_on, watched_more, watched_all}
use Rattle.av_commands.proofs.Fed.{fed}

-- c cycles were watched, and the registers have the words of the next one
pub record IsWatching (m : Module) (s : Stimulus) (lines : List Entry) (inputs c : ℕ) (clock : Seen) (next : ℕ) (ports : List ℕ) (words : List Word) : Type 0 where
  pub of : clock.of ≡ m
  pub registers : ForRuns m s (λ run. c < s.cycles → Agree (names_of m.registers) (carried clock) (run.in_cycle c))
  pub left : AreLeft m.inputs s.values c 0 (drop next s.values)
  pub within : next ≤ length s.values
  pub room : inputs ≤ length ports
  pub long : length words ≡ length lines
  pub watched_so : ForRuns m s (λ run. bits_of words ≡ watched run.in_cycle c lines)

module _ (m : Module) (s : Stimulus) (lines : List Entry) (inputs c : ℕ) (clock seen seen' seen'' : Seen) (next next' : ℕ) (ports ports' : List ℕ) (words words' : List Word)
    (sound : IsSound m) (count : inputs ≡ length m.inputs) (watching : IsWatching m s lines inputs c clock next ports words) (lt : c < s.cycles) (named : All (λ line. Contains (all_names m) line.wire) lines)
    (of : seen.of ≡ clock.of) (of' : seen'.of ≡ seen.of) (of'' : seen''.of ≡ seen'.of)
    (presents : ArePresented seen.of s.values c inputs (carried seen) ports') (registers : Agree (names_of seen.of.registers) (carried clock) (carried seen))
    (settled : Settled seen'.of (carried seen')) (given : Agree (given_names seen'.of) (carried seen) (carried seen'))
    (notes : bits_of words' ≡ noted (carried seen') c lines (bits_of words)) (edge : Edge seen''.of false (carried seen') (carried seen''))
    (left : AreLeft seen.of.inputs s.values (c + 1) 0 (drop next' s.values)) (within : next' ≤ length s.values) (room : length ports' ≡ length ports) where
  first_at : seen.of ≡ m
  first_at = of ∙ watching.of

  then_at : seen'.of ≡ m
  then_at = of' ∙ first_at

  agrees : ForRuns m s (λ run. c < s.cycles → Agree (all_names m) (carried seen') (run.in_cycle c))
  agrees =
      let here = subst (λ x. ArePresented x s.values c inputs (carried seen) ports') first_at presents in
      let kept = subst (λ x. Agree (names_of x.registers) (carried clock) (carried seen)) first_at registers in
      let inside : (k : ℕ) (port : Port) → slice_get m.inputs k ≡ Some port → k < inputs = λ k port e. (let w = slice_get_within m.inputs k port e in omega (arith, w, count)) in
      let carries = presented m s c (carried seen) (λ k port e. (here k port (inside k port e) e).0) in
      settled_cycle m s c (carried seen) (carried seen') sound carries (λ stream run stimulated is lt k d at. sym (kept k d at) ∙ watching.registers stream run stimulated is lt k d at)
      (subst (λ x. Agree (given_names x) (carried seen) (carried seen')) then_at given) (subst (λ x. Settled x (carried seen')) then_at settled)

  pub goes_on : length words' ≡ length words → IsWatching m s lines inputs (c + 1) seen'' next' ports' words'
  goes_on same = record {
    of = of'' ∙ then_at;
    registers = tick_registers m s c (carried seen') (carried seen'') sound (subst (λ x. Edge x false (carried seen') (carried seen'')) (of'' ∙ then_at) edge) agrees;
    left = subst (λ (x : Module). AreLeft x.inputs s.values (c + 1) 0 (drop next' s.values)) first_at left;
    within = within;
    room = (let r = watching.room in omega (arith, r, room));
    long = same ∙ watching.long;
    watched_so = λ stream run stimulated is.
        notes ∙ ap (noted (carried seen') c lines) (watching.watched_so stream run stimulated is)
        ∙ watched_more run.in_cycle (carried seen') c lines (agree_on m (carried seen') (run.in_cycle c) lines (agrees stream run stimulated is lt) named);
  }

-- ---- a run under a stimulus

-- the stream that a stimulus gives, and the run under it whose registers are 0 before the reset edge
pub record HasRunUnder (m : Module) (s : Stimulus) : Type 0 where
  pub stream : Stream
  pub run : Run
  pub stimulated : IsStimulated m s stream
  pub is : IsRun m s.cycles stream run
  pub powered : All (λ port. run.before port.name ≡ 0) m.registers

pub run_under : (m : Module) (s : Stimulus) → IsSound m → HasRunUnder m s
run_under m s sound =
    let stream = stream_of m s in
    let (run, is, before) = has_runs m sound s.cycles stream (λ name. 0) in
    record {
      stream = stream;
      run = run;
      stimulated = is_stream m s sound;
      is = is;
      powered = λ k e lt. ap (λ (v : Words). v (get_or m.registers k e).name) before;
    }

-- ---- a design

-- the stream that a stimulus gives, and the run under it
pub record HasRun (d : Design) (x : Values) (s : Stimulus) : Type 0 where
  pub stream : Stream
  pub run : Run
  pub stimulated : IsStimulated d.module s stream
  pub is : IsRun d.module s.cycles stream run
  pub clocked : IsFedRun d x s.cycles run

pub has_run : (d : Design) (x : Values) (s : Stimulus) → IsSound d.module → AreOfLines d x (length d.listing.ins) s.values → HasRun d x s
has_run d x s sound so =
    let under = run_under d.module s sound in
    record {
      stream = under.stream;
      run = under.run;
      stimulated = under.stimulated;
      is = under.is;
      clocked = record { stream = under.stream; fed = fed d x s under.stream so under.stimulated; powered = under.powered; clocked = under.is };
    }

pub shown_so : (d : Design) (x : Values) (s : Stimulus) (words : List Word) → IsSound d.module → AreOfLines d x (length d.listing.ins) s.values → All (λ line. line.cycle < s.cycles) d.listing.ats
    → ((stream : Stream) (run : Run) → IsStimulated d.module s stream → IsRun d.module s.cycles stream run → bits_of words ≡ watched run.in_cycle s.cycles d.listing.ats) → AreShown d x (bits_of words)
shown_so d x s words sound so reached is =
    let has = has_run d x s sound so in
    record {
      cycles = s.cycles;
      run = has.run;
      clocked = has.clocked;
      reached = reached;
      words_are = is has.stream has.run has.stimulated has.is ∙ watched_all has.run.in_cycle s.cycles d.listing.ats reached;
    }
