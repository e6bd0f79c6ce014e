-- A clocked module beside each run under a stimulus: its registers, and a settled cycle; and a stream that carries the stimulus.
use Rattle.std.proofs.Common.{◌≡◌, ℕ, ◌+◌, ◌<◌, true, false, List, get_or, Option, Some, None, slice_get, refl, sym, ap, ◌∙◌, arith}
use Rattle.std.specs.Prelude.{All, Contains}
use Rattle.std.proofs.lemmas.List.Elements.{All-append, All-map, Contains-append_left, Contains-append_right}
use Rattle.std.proofs.lemmas.Option.{slice_get-get_or}
use Rattle.av_net.specs.declared.netlist.Port.{Port}
use Rattle.av_net.specs.declared.netlist.Step.{Step}
use Rattle.av_net.specs.declared.netlist.Module.{Module}
use Rattle.av_net.specs.Meaning.{Words}
use Rattle.av_net.specs.Names.{names_of, registers_of, given_names, wire_names, all_names}
use Rattle.av_net.specs.Settled.{Settled, Agree}
use Rattle.av_net.specs.Clocked.{Stream, Edge}
use Rattle.av_net.specs.Sound.{IsSound}
use Rattle.av_net.proofs.Distinct.{front_distinct}
use Rattle.av_net.proofs.Once.{agree_within, same_word, one_settled}
use Rattle.av_data.specs.declared.stimulus.Given.{Given}
use Rattle.av_data.specs.declared.stimulus.Stimulus.{Stimulus}
use Rattle.av_data.specs.Reading.{place_of}
use Rattle.av_data.proofs.Lined.{name_there, place_at}
use Rattle.av_wave.specs.Simulated.{given_word, IsStimulated, header_ports}
use Rattle.av_wave.specs.Clocking.{ForRuns}
use Rattle.av_wave.proofs.Presenting.{given_distinct}

-- ---- registers

-- registers that took the same words agree
stepped : (m : Module) (v w : Words) → IsSound m → All (λ step. v step.register ≡ w step.register) m.steps → Agree (names_of m.registers) v w
stepped m v w sound steps = agree_within (registers_of m.steps) (names_of m.registers) v w (All-map (λ name. v name ≡ w name) (λ (step : Step). step.register) m.steps steps) sound.registers_stepped

pub reset_registers : (m : Module) (s : Stimulus) (before v : Words) → IsSound m → Edge m true before v → ForRuns m s (λ run. 0 < s.cycles → Agree (names_of m.registers) v (run.in_cycle 0))
reset_registers m s before v sound edge = λ stream run stimulated is lt. stepped m v (run.in_cycle 0) sound (λ k d at. edge k d at ∙ sym (is.reset k d at))

pub tick_registers : (m : Module) (s : Stimulus) (c : ℕ) (v v' : Words) → IsSound m → Edge m false v v' → ForRuns m s (λ run. c < s.cycles → Agree (all_names m) v (run.in_cycle c))
    → ForRuns m s (λ run. c + 1 < s.cycles → Agree (names_of m.registers) v' (run.in_cycle (c + 1)))
tick_registers m s c v v' sound edge same = λ stream run stimulated is lt.
    stepped m v' (run.in_cycle (c + 1)) sound
    (λ k d at. edge k d at ∙ same_word (all_names m) v (run.in_cycle c) (get_or m.steps k d).next (same stream run stimulated is (omega (arith, lt))) (sound.steps_read k d at) ∙ sym (is.edges c lt k d at))

-- ---- a settled cycle

-- the input ports have what is given to them
pub presented : (m : Module) (s : Stimulus) (c : ℕ) (v : Words) → ((k : ℕ) (port : Port) → slice_get m.inputs k ≡ Some port → v port.name ≡ given_word s.values c k)
    → ForRuns m s (λ run. c < s.cycles → Agree (names_of m.inputs) v (run.in_cycle c))
presented m s c v given = λ stream run stimulated is lt.
    All-map (λ name. v name ≡ run.in_cycle c name) (λ (port : Port). port.name) m.inputs
    (λ k d at.
    let port = get_or m.inputs k d in
    let there = slice_get-get_or m.inputs k d at in
    given k port there ∙ sym (stimulated.in_cycles c k port there) ∙ sym (is.ports c lt k d at))

pub settled_cycle : (m : Module) (s : Stimulus) (c : ℕ) (v w : Words) → IsSound m → ForRuns m s (λ run. c < s.cycles → Agree (names_of m.inputs) v (run.in_cycle c))
    → ForRuns m s (λ run. c < s.cycles → Agree (names_of m.registers) v (run.in_cycle c)) → Agree (given_names m) v w → Settled m w → ForRuns m s (λ run. c < s.cycles → Agree (all_names m) w (run.in_cycle c))
settled_cycle m s c v w sound inputs registers kept settled = λ stream run stimulated is lt.
    let both : Agree (given_names m) v (run.in_cycle c) = All-append (λ name. v name ≡ run.in_cycle c name) (names_of m.inputs) (names_of m.registers) (inputs stream run stimulated is lt) (registers stream run stimulated is lt) in
    let given : Agree (given_names m) w (run.in_cycle c) = λ k d at. sym (kept k d at) ∙ both k d at in
    All-append (λ name. w name ≡ run.in_cycle c name) (given_names m) (wire_names m) given (one_settled m sound w (run.in_cycle c) given settled (is.settled c lt))

-- the ports of the header are declared
pub header_named : (m : Module) → All (λ port. Contains (all_names m) port.name) (header_ports m)
header_named m = All-append (λ port. Contains (all_names m) port.name) m.inputs m.outputs
    (λ k d lt. let port = get_or m.inputs k d in Contains-append_left (given_names m) (wire_names m) port.name (Contains-append_left (names_of m.inputs) (names_of m.registers) port.name (name_there m.inputs k port (slice_get-get_or m.inputs k d lt))))
    (λ k d lt. let port = get_or m.outputs k d in Contains-append_right (given_names m) (wire_names m) port.name (Contains-append_left (names_of m.outputs) (names_of m.wires) port.name (name_there m.outputs k port (slice_get-get_or m.outputs k d lt))))

-- ---- a stream that carries what the stimulus gives

abbrev word_by : List Given → ℕ → Option ℕ → ℕ
word_by values c None = 0
word_by values c (Some k) = given_word values c k

pub stream_of : Module → Stimulus → Stream
stream_of m s = record { on_reset = λ name. 0; in_cycle = λ c name. word_by s.values c (place_of m.inputs name) }

pub is_stream : (m : Module) (s : Stimulus) → IsSound m → IsStimulated m s (stream_of m s)
unfolding stream_of
is_stream m s sound = record {
  on_reset = λ k d lt. refl;
  in_cycles = λ c k port e. ap (word_by s.values c) (place_at m.inputs k port (front_distinct (names_of m.inputs) (names_of m.registers) (given_distinct m sound)) e);
}
