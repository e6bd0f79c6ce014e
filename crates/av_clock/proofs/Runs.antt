-- A clock over a run: what its calls say of one cycle after another gives the words of each run under the stream.
use Rattle.std.proofs.Common.{◌≡◌, ℕ, ◌+◌, ◌<◌, length, get_or, sym, ◌∙◌, arith, true, false}
use Rattle.std.specs.Prelude.{All}
use Rattle.std.proofs.lemmas.List.Elements.{All-append, All-map, All-contains}
use Rattle.av_net.specs.declared.netlist.Port.{Port}
use Rattle.av_net.specs.declared.netlist.Step.{Step}
use Rattle.av_net.specs.declared.netlist.Module.{Module}
use Rattle.av_net.specs.Meaning.{Words}
use Rattle.av_net.specs.Names.{names_of, registers_of, given_names, wire_names, all_names}
use Rattle.av_net.specs.Settled.{Settled, Agree}
use Rattle.av_net.specs.Clocked.{Stream, Run, IsRun, Edge, Carries}
use Rattle.av_net.specs.Sound.{IsSound}
use Rattle.av_net.proofs.Cycles.{is_declared, register_contained}
use Rattle.av_net.proofs.Once.{agree_within, same_word, one_settled}

-- in each run of n cycles under the stream, all names have these words in cycle c
abbrev pub IsInCycle : Module → ℕ → Stream → ℕ → Words → Type 0
IsInCycle m n stream c v = (run : Run) → IsRun m n stream run → c < n → Agree (all_names m) v (run.in_cycle c)

-- settled words are given by the ports and by what the steps gave
same_words : (m : Module) (v w ports : Words) → IsSound m → All (λ step. v step.register ≡ w step.register) m.steps → Carries m ports v → Carries m ports w → Settled m v → Settled m w → Agree (all_names m) v w
same_words m v w ports sound steps cv cw sv sw =
    let inputs : Agree (names_of m.inputs) v w = All-map (λ name. v name ≡ w name) (λ (port : Port). port.name) m.inputs (λ k d lt. cv k d lt ∙ sym (cw k d lt)) in
    let stepped : Agree (registers_of m.steps) v w = All-map (λ name. v name ≡ w name) (λ (step : Step). step.register) m.steps steps in
    let registers : Agree (names_of m.registers) v w = agree_within (registers_of m.steps) (names_of m.registers) v w stepped sound.registers_stepped in
    let given : Agree (given_names m) v w = All-append (λ name. v name ≡ w name) (names_of m.inputs) (names_of m.registers) inputs registers in
    All-append (λ name. v name ≡ w name) (given_names m) (wire_names m) given (one_settled m sound v w given sv sw)

-- at a step's register
at_register : (m : Module) (v w : Words) (k : ℕ) (d : Step) → IsSound m → Agree (names_of m.registers) v w → k < length m.steps → v (get_or m.steps k d).register ≡ w (get_or m.steps k d).register
at_register m v w k d sound agree lt =
    let register = (get_or m.steps k d).register in
    All-contains (λ name. v name ≡ w name) (names_of m.registers) register agree (is_declared m sound register (register_contained m k d lt))

-- after the reset edge, with the ports of the first cycle set, and settled
pub first_cycle : (m : Module) (n : ℕ) (stream : Stream) (before edge v : Words) → IsSound m → Edge m true before edge → Agree (names_of m.registers) edge v → Carries m (stream.in_cycle 0) v → Settled m v → IsInCycle m n stream 0 v
first_cycle m n stream before edge v sound reset agree carries settled run is lt =
    same_words m v (run.in_cycle 0) (stream.in_cycle 0) sound (λ k d at. sym (at_register m edge v k d sound agree at) ∙ reset k d at ∙ sym (is.reset k d at)) carries (is.ports 0 lt) settled (is.settled 0 lt)

-- after an edge without reset, with the ports of the next cycle set, and settled
pub next_cycle : (m : Module) (n : ℕ) (stream : Stream) (c : ℕ) (old edge v : Words) → IsSound m → IsInCycle m n stream c old → Edge m false old edge → Agree (names_of m.registers) edge v
    → Carries m (stream.in_cycle (c + 1)) v → Settled m v → IsInCycle m n stream (c + 1) v
next_cycle m n stream c old edge v sound so_far taken agree carries settled run is lt =
    let same : Agree (all_names m) old (run.in_cycle c) = so_far run is (omega arith) in
    same_words m v (run.in_cycle (c + 1)) (stream.in_cycle (c + 1)) sound
    (λ k d at. sym (at_register m edge v k d sound agree at) ∙ taken k d at ∙ same_word (all_names m) old (run.in_cycle c) (get_or m.steps k d).next same (sound.steps_read k d at) ∙ sym (is.edges c lt k d at))
    carries (is.ports (c + 1) lt) settled (is.settled (c + 1) lt)
