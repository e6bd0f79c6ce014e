-- Under a stream whose words fit, the words of a sound module's run fit.
use Rattle.std.proofs.Common.{◌≡◌, ℕ, zero, suc, ◌<◌, List, get_or, sym, subst, arith, add-one, Bool, true, false, if◌then◌else◌}
use Rattle.std.specs.Prelude.{All, Contains}
use Rattle.std.proofs.lemmas.List.Elements.{All-contains, All-weaker, All-append, All-map, Contains-get_or}
use Rattle.av_base.specs.Words.{IsWord}
use Rattle.av_net.specs.declared.netlist.Port.{Port}
use Rattle.av_net.specs.declared.netlist.Step.{Step}
use Rattle.av_net.specs.declared.netlist.Module.{Module}
use Rattle.av_net.specs.Meaning.{Words, word_of}
use Rattle.av_net.specs.Names.{names_of, registers_of, given_names, wire_names, all_names, width_of}
use Rattle.av_net.specs.Settled.{Settled, FitAt}
use Rattle.av_net.specs.Clocked.{Edge, Carries, FitPorts}
use Rattle.av_net.specs.Sound.{IsSound}
use Rattle.av_net.specs.Laws.{RunsFit}
use Rattle.av_net.proofs.Declared.{declared_width, input_declared}
use Rattle.av_net.proofs.Fits.{word_fits, settled_fit}

-- at each input port
inputs_fit : (m : Module) → IsSound m → (ports v : Words) → Carries m ports v → FitPorts m ports → FitAt (width_of m) (names_of m.inputs) v
inputs_fit m sound ports v carries fits =
    All-map (λ name. IsWord (width_of m name) (v name)) (λ (port : Port). port.name) m.inputs (λ k d lt.
    let port = get_or m.inputs k d in
    let width : width_of m port.name ≡ port.width.bits = declared_width m sound port (input_declared m port (Contains-get_or m.inputs k d lt)) in
    subst (λ w. IsWord w (v port.name)) (sym width) (subst (λ a. IsWord port.width.bits a) (sym (carries k d lt)) (fits k d lt)))

-- at each register after an edge that gives fitting words
registers_fit : (m : Module) → IsSound m → (reset : Bool) (old new : Words) → Edge m reset old new
    → All (λ step. IsWord (width_of m step.register) (if reset then step.reset else word_of old step.next)) m.steps → FitAt (width_of m) (names_of m.registers) new
registers_fit m sound reset old new edge fits =
    let P : List ℕ → Type 0 = λ name. IsWord (width_of m name) (new name) in
    let stepped : All P (registers_of m.steps) = All-map P (λ (step : Step). step.register) m.steps (λ k d lt. subst (λ a. IsWord (width_of m (get_or m.steps k d).register) a) (sym (edge k d lt)) (fits k d lt)) in
    All-weaker (Contains (registers_of m.steps)) P (λ name at. All-contains P (registers_of m.steps) name stepped at) (names_of m.registers) sound.registers_stepped

-- after an edge, settled
cycle_fits : (m : Module) → IsSound m → (reset : Bool) (old new ports : Words) → Edge m reset old new → Carries m ports new → FitPorts m ports → Settled m new
    → All (λ step. IsWord (width_of m step.register) (if reset then step.reset else word_of old step.next)) m.steps → FitAt (width_of m) (all_names m) new
cycle_fits m sound reset old new ports edge carries fits settled taken =
    let P : List ℕ → Type 0 = λ name. IsWord (width_of m name) (new name) in
    let given : FitAt (width_of m) (given_names m) new = All-append P (names_of m.inputs) (names_of m.registers) (inputs_fit m sound ports new carries fits) (registers_fit m sound reset old new edge taken) in
    All-append P (given_names m) (wire_names m) given (settled_fit m sound new given settled)

-- by the number of the cycle
pub runs_fit : RunsFit
runs_fit m sound n stream run is fits zero lt =
    cycle_fits m sound true run.before (run.in_cycle 0) (stream.in_cycle 0) is.reset (is.ports 0 lt) (fits 0 lt) (is.settled 0 lt) sound.resets_fit
runs_fit m sound n stream run is fits (suc c) lt =
    let before : c < n = omega arith in
    let edge : Edge m false (run.in_cycle c) (run.in_cycle (suc c)) = rw add-one at (is.edges c (omega arith)) in
    let old : FitAt (width_of m) (all_names m) (run.in_cycle c) = runs_fit m sound n stream run is fits c before in
    cycle_fits m sound false (run.in_cycle c) (run.in_cycle (suc c)) (stream.in_cycle (suc c)) edge (is.ports (suc c) lt) (fits (suc c) lt) (is.settled (suc c) lt)
    (λ k d at. subst (λ w. IsWord w (word_of (run.in_cycle c) (get_or m.steps k d).next)) (sound.step_widths k d at) (word_fits (width_of m) (all_names m) (run.in_cycle c) (get_or m.steps k d).next old (sound.steps_read k d at) (sound.steps_fit k d at)))
