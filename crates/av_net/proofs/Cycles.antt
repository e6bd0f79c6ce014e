-- Under each stream a sound module has one run.
use Rattle.std.proofs.Common.{◌≡◌, ◌≢◌, ℕ, zero, suc, ◌+◌, ◌<◌, List, [], ◌∷◌, get_or, refl, sym, ◌∙◌, arith, Bool, true, false, if◌then◌else◌, add-one}
use Rattle.std.specs.Prelude.{All, Contains}
use Rattle.std.specs.List.{AllByRecursion}
use Rattle.std.proofs.lemmas.List.{get_or-map, length-map}
use Rattle.std.proofs.lemmas.List.Elements.{All-contains, All-from_recursion, All-append, All-map, Contains-append_left, Contains-append_right}
use Rattle.av_net.specs.declared.netlist.Port.{Port}
use Rattle.av_net.specs.declared.netlist.Step.{Step}
use Rattle.av_net.specs.declared.netlist.Module.{Module}
use Rattle.av_net.specs.Meaning.{Words, word_of}
use Rattle.av_net.specs.Names.{AreDistinct, names_of, targets_of, registers_of, given_names, wire_names, all_names}
use Rattle.av_net.specs.Settled.{Settled, Agree}
use Rattle.av_net.specs.Clocked.{Stream, Edge, Carries}
use Rattle.av_net.specs.Sound.{IsSound}
use Rattle.av_net.specs.Laws.{HasRuns, OneRun}
use Rattle.av_net.proofs.Distinct.{apart, front_distinct, rest_distinct}
use Rattle.av_net.proofs.Once.{agree_within, same_word, one_settled}
use Rattle.av_net.proofs.Settles.{with_word, with_word_same, with_word_other, names_distinct, settled_of, is_settled, as_given}

-- the name is none of the registers of these steps
abbrev IsNoRegister : List Step → List ℕ → Type 0
IsNoRegister steps name = AllByRecursion (λ step. step.register ≢ name) steps

-- each step gives a register that no later step gives
abbrev AreOnce : List Step → Type 0
AreOnce [] = Unit {0}
AreOnce (step ∷ steps) = IsNoRegister steps step.register × AreOnce steps

-- from what the list of registers contains
is_no_register : (steps : List Step) (name : List ℕ) → (Contains (registers_of steps) name → ⊥) → IsNoRegister steps name
is_no_register [] name none = tt
is_no_register (step ∷ steps) name none = ((λ same. none (0, omega arith, same)), is_no_register steps name (λ at. none (suc at.0, omega (arith, at.1), at.2)))

-- registers that are all distinct are stepped once
are_once : (steps : List Step) → AreDistinct (registers_of steps) → AreOnce steps
are_once [] distinct = tt
are_once (step ∷ steps) distinct = (
  is_no_register steps step.register (λ at. apart (step.register ∷ []) (registers_of steps) step.register distinct (0, omega arith, refl) at),
  are_once steps (rest_distinct (step.register ∷ []) (registers_of steps) distinct),
)

-- a sound module steps each register once
stepped_once : (m : Module) → IsSound m → AreOnce m.steps
stepped_once m sound = are_once m.steps (rest_distinct (targets_of m.drives) (registers_of m.steps) sound.driven_once)

-- each input port's name is among their names
pub input_contained : (m : Module) → All (λ port. Contains (names_of m.inputs) port.name) m.inputs
input_contained m k d lt =
    let name = (get_or m.inputs k d).name in
    (k, omega (arith, length-map m.inputs (λ (port : Port). port.name)), get_or-map (λ (port : Port). port.name) m.inputs k d name lt)

-- each step's register is among the stepped ones
pub register_contained : (m : Module) → All (λ step. Contains (registers_of m.steps) step.register) m.steps
register_contained m k d lt =
    let name = (get_or m.steps k d).register in
    (k, omega (arith, length-map m.steps (λ (step : Step). step.register)), get_or-map (λ (step : Step). step.register) m.steps k d name lt)

-- a step's register is declared
pub is_declared : (m : Module) → IsSound m → (name : List ℕ) → Contains (registers_of m.steps) name → Contains (names_of m.registers) name
is_declared m sound name at = All-contains (Contains (names_of m.registers)) (registers_of m.steps) name sound.steps_registers at

-- no input port is a register
inputs_apart : (m : Module) → IsSound m → (name : List ℕ) → Contains (names_of m.inputs) name → IsNoRegister m.steps name
inputs_apart m sound name input =
    let given : AreDistinct (given_names m) = front_distinct (given_names m) (wire_names m) (names_distinct m sound) in
    is_no_register m.steps name (λ at. apart (names_of m.inputs) (names_of m.registers) name given input (is_declared m sound name at))

-- what the registers take at an edge, over the words of the ports
abbrev taken : Bool → Words → List Step → Words → Words
taken reset old [] ports = ports
taken reset old (step ∷ steps) ports = with_word (taken reset old steps ports) step.register (if reset then step.reset else word_of old step.next)

-- one step's part of an edge
abbrev Gets : Bool → Words → Words → Step → Type 0
Gets reset old new step = new step.register ≡ (if reset then step.reset else word_of old step.next)

-- a change of another name keeps what the steps gave
still : (reset : Bool) (old v : Words) (register : List ℕ) (word : ℕ) (steps : List Step) → IsNoRegister steps register → AllByRecursion (Gets reset old v) steps → AllByRecursion (Gets reset old (with_word v register word)) steps
still reset old v register word [] ne h = tt
still reset old v register word (step ∷ steps) ne h = (with_word_other v register word step.register ne.0 ∙ h.0, still reset old v register word steps ne.1 h.1)

-- each step gives its register what it takes
all_taken : (reset : Bool) (old : Words) (steps : List Step) (ports : Words) → AreOnce steps → AllByRecursion (Gets reset old (taken reset old steps ports)) steps
all_taken reset old [] ports once = tt
all_taken reset old (step ∷ steps) ports once =
    let word = if reset then step.reset else word_of old step.next in
    let v = taken reset old steps ports in
    (with_word_same v step.register word, still reset old v step.register word steps once.0 (all_taken reset old steps ports once.1))

-- what is no register keeps its word
port_kept : (reset : Bool) (old : Words) (steps : List Step) (ports : Words) (name : List ℕ) → IsNoRegister steps name → taken reset old steps ports name ≡ ports name
port_kept reset old [] ports name none = refl
port_kept reset old (step ∷ steps) ports name none =
    with_word_other (taken reset old steps ports) step.register (if reset then step.reset else word_of old step.next) name (λ e. none.0 (sym e)) ∙ port_kept reset old steps ports name none.1

-- the words after an edge, settled
abbrev moment : Module → Bool → Words → Words → Words
moment m reset old ports = settled_of m (taken reset old m.steps ports)

-- these words stand after the edge
moment-edge : (m : Module) → IsSound m → (reset : Bool) (old ports : Words) → Edge m reset old (moment m reset old ports)
moment-edge m sound reset old ports k d lt =
    let register = (get_or m.steps k d).register in
    as_given m sound (taken reset old m.steps ports) register (Contains-append_right (names_of m.inputs) (names_of m.registers) register (is_declared m sound register (register_contained m k d lt)))
    ∙ All-from_recursion (Gets reset old (taken reset old m.steps ports)) m.steps (all_taken reset old m.steps ports (stepped_once m sound)) k d lt

-- and have the words of the ports
moment-ports : (m : Module) → IsSound m → (reset : Bool) (old ports : Words) → Carries m ports (moment m reset old ports)
moment-ports m sound reset old ports k d lt =
    let name = (get_or m.inputs k d).name in
    as_given m sound (taken reset old m.steps ports) name (Contains-append_left (names_of m.inputs) (names_of m.registers) name (input_contained m k d lt))
    ∙ port_kept reset old m.steps ports name (inputs_apart m sound name (input_contained m k d lt))

-- the words of each cycle
abbrev cycles : Module → Stream → Words → ℕ → Words
cycles m stream before zero = moment m true before (stream.in_cycle 0)
cycles m stream before (suc c) = moment m false (cycles m stream before c) (stream.in_cycle (suc c))

-- each cycle has the words of the ports
cycles-ports : (m : Module) → IsSound m → (stream : Stream) (before : Words) (c : ℕ) → Carries m (stream.in_cycle c) (cycles m stream before c)
cycles-ports m sound stream before zero = moment-ports m sound true before (stream.in_cycle 0)
cycles-ports m sound stream before (suc c) = moment-ports m sound false (cycles m stream before c) (stream.in_cycle (suc c))

-- each cycle is settled
cycles-settled : (m : Module) → IsSound m → (stream : Stream) (before : Words) (c : ℕ) → Settled m (cycles m stream before c)
cycles-settled m sound stream before zero = is_settled m sound (taken true before m.steps (stream.in_cycle 0))
cycles-settled m sound stream before (suc c) = is_settled m sound (taken false (cycles m stream before c) m.steps (stream.in_cycle (suc c)))

-- a run
pub has_runs : HasRuns
has_runs m sound n stream before = (
  record { before = before; in_cycle = cycles m stream before },
  record {
    reset = moment-edge m sound true before (stream.in_cycle 0);
    ports = λ c lt. cycles-ports m sound stream before c;
    settled = λ c lt. cycles-settled m sound stream before c;
    edges = λ c lt. rw add-one (moment-edge m sound false (cycles m stream before c) (stream.in_cycle (suc c)));
  },
  refl,
)

-- two maps with the same words at the ports and after the same edge
same_given : (m : Module) → IsSound m → (v w ports : Words) → Carries m ports v → Carries m ports w → All (λ step. v step.register ≡ w step.register) m.steps → Agree (given_names m) v w
same_given m sound v w ports cv cw steps =
    let inputs : Agree (names_of m.inputs) v w = All-map (λ name. v name ≡ w name) (λ (port : Port). port.name) m.inputs (λ k d lt. cv k d lt ∙ sym (cw k d lt)) in
    let stepped : Agree (registers_of m.steps) v w = All-map (λ name. v name ≡ w name) (λ (step : Step). step.register) m.steps steps in
    let registers : Agree (names_of m.registers) v w = agree_within (registers_of m.steps) (names_of m.registers) v w stepped sound.registers_stepped in
    All-append (λ name. v name ≡ w name) (names_of m.inputs) (names_of m.registers) inputs registers

-- settled words that agree at ports and registers agree
same_all : (m : Module) → IsSound m → (v w : Words) → Agree (given_names m) v w → Settled m v → Settled m w → Agree (all_names m) v w
same_all m sound v w given sv sw = All-append (λ name. v name ≡ w name) (given_names m) (wire_names m) given (one_settled m sound v w given sv sw)

-- registers that took the words of operands which agree
same_edge : (m : Module) → IsSound m → (v w v' w' : Words) → Agree (all_names m) v w → Edge m false v v' → Edge m false w w' → All (λ step. v' step.register ≡ w' step.register) m.steps
same_edge m sound v w v' w' same ev ew k d lt =
    ev k d lt ∙ same_word (all_names m) v w (get_or m.steps k d).next same (sound.steps_read k d lt) ∙ sym (ew k d lt)

-- by the number of the cycle
pub one_run : OneRun
one_run m sound n stream run other is is' zero lt =
    same_all m sound (run.in_cycle 0) (other.in_cycle 0)
    (same_given m sound (run.in_cycle 0) (other.in_cycle 0) (stream.in_cycle 0) (is.ports 0 lt) (is'.ports 0 lt) (λ k d at. is.reset k d at ∙ sym (is'.reset k d at)))
    (is.settled 0 lt) (is'.settled 0 lt)
one_run m sound n stream run other is is' (suc c) lt =
    let before : c < n = omega arith in
    let lt' : c + 1 < n = omega arith in
    let same = one_run m sound n stream run other is is' c before in
    let e : Edge m false (run.in_cycle c) (run.in_cycle (suc c)) = rw add-one at (is.edges c lt') in
    let e' : Edge m false (other.in_cycle c) (other.in_cycle (suc c)) = rw add-one at (is'.edges c lt') in
    same_all m sound (run.in_cycle (suc c)) (other.in_cycle (suc c))
    (same_given m sound (run.in_cycle (suc c)) (other.in_cycle (suc c)) (stream.in_cycle (suc c)) (is.ports (suc c) lt) (is'.ports (suc c) lt)
    (same_edge m sound (run.in_cycle c) (other.in_cycle c) (run.in_cycle (suc c)) (other.in_cycle (suc c)) same e e'))
    (is.settled (suc c) lt) (is'.settled (suc c) lt)
