-- The registers of the steps that are taken, one after another.
use Rattle.std.proofs.Common.{◌≡◌, ◌<◌, ◌≤◌, ◌∙◌, ℕ, Bool, List, Vec, ap, sym, subst, get_or, length, arith}
use Rattle.std.specs.Prelude.{Contains}
use Rattle.std.specs.declared.alloc.Global.{Global}
use Rattle.std.proofs.lemmas.Grind.{get_or_default_zero}
use Rattle.av_net.specs.declared.netlist.Module.{Module}
use Rattle.av_net.specs.Names.{all_names, names_of, registers_of}
use Rattle.av_net.specs.Settled.{Agree}
use Rattle.av_net.specs.Clocked.{Edge}
use Rattle.av_net.specs.Sound.{IsSound}
use Rattle.av_clock.specs.declared.gate.FlipFlop.{FlipFlop}
use Rattle.av_clock.specs.declared.state.State.{State}
use Rattle.av_clock.specs.Named.{named}
use Rattle.av_clock.specs.Gates.{AreStepped}
use Rattle.av_clock.specs.Kept.{AreZero}
use Rattle.av_clock.specs.inner.State.{named_words, drive_state, HasZeros}
use Rattle.av_clock.proofs.Computing.{edge_zero}
use Rattle.av_clock.proofs.Edges.{IsFor, no_flip_flop, for_read}
use Rattle.av_clock.proofs.Taking.{ports_same}

-- the flip-flop of the i-th taken step and its next word, of a later state with the same circuit and the same taken steps
pub record IsTaken (first s : State) (i next : ℕ) (flip_flop : FlipFlop) : Type 0 where
  pub size : length s.words.items ≡ length (all_names first.circuit)
  pub for : IsFor first.circuit (get_or first.taken.items i 0) flip_flop
  pub word : next ≡ get_or first.next.items i 0

pub is_taken : (first s : State) (count i step word : ℕ) (flip_flops : List FlipFlop) → s.circuit ≡ first.circuit → s.taken ≡ first.taken → s.next ≡ first.next → count ≤ length first.circuit.steps → i < count
    → get_or first.taken.items i 0 < length first.circuit.steps → AreStepped s.circuit (length s.circuit.steps) flip_flops → step ≡ get_or s.taken.items i step → word ≡ get_or s.next.items i word
    → IsTaken first s i word (get_or flip_flops step no_flip_flop)
is_taken first s count i step word flip_flops same taken next few lt within are at here =
    let Item : Vec ℕ Global → ℕ = λ v. get_or v.items i 0 in
    let steps : length s.circuit.steps ≡ length first.circuit.steps = ap (λ (m : Module). length m.steps) same in
    let place : step ≡ get_or first.taken.items i 0 = at ∙ get_or_default_zero s.taken.items i step (omega (arith, few, lt, steps, s.taken_size)) ∙ ap Item taken in
    let are' : AreStepped first.circuit (length first.circuit.steps) flip_flops = subst (λ (m : Module). AreStepped m (length m.steps) flip_flops) same are in
    record {
      size = s.size ∙ ap (λ (m : Module). length (all_names m)) same;
      for = subst (λ (n : ℕ). IsFor first.circuit n (get_or flip_flops step no_flip_flop)) place (for_read first.circuit flip_flops step are' (let count = are'.count in omega (arith, place, within, count)));
      word = here ∙ get_or_default_zero s.next.items i word (omega (arith, few, lt, steps, s.next_size)) ∙ ap Item next;
    }

-- ---- what holds after it, from what was seen before the steps were taken

module _ (seen : Module × List ℕ × List Bool) (s t : State) (kept : drive_state s ≡ seen) (same : t.circuit ≡ s.circuit) where
  pub edge_stored : (reset : Bool) → Edge s.circuit reset (named_words s) (named s.circuit t.words.items) → Edge t.circuit reset (named seen.0 seen.1) (named_words t)
  edge_stored reset edge =
      subst (λ (c : Module × List ℕ × List Bool). Edge t.circuit reset (named c.0 c.1) (named_words t)) kept (subst (λ (m : Module). Edge m reset (named_words s) (named m t.words.items)) (sym same) edge)

  pub ports_stored : IsSound s.circuit → ((name : List ℕ) → (Contains (registers_of s.circuit.steps) name → ⊥) → named s.circuit t.words.items name ≡ named_words s name) → Agree (names_of t.circuit.inputs) (named seen.0 seen.1) (named_words t)
  ports_stored sound others =
      subst (λ (c : Module × List ℕ × List Bool). Agree (names_of t.circuit.inputs) (named c.0 c.1) (named_words t)) kept
      (subst (λ (m : Module). Agree (names_of m.inputs) (named_words s) (named m t.words.items)) (sym same) (ports_same s.circuit (named_words s) (named s.circuit t.words.items) sound others))

  pub zeros_stored : IsSound s.circuit → ((name : List ℕ) → (Contains (registers_of s.circuit.steps) name → ⊥) → named s.circuit t.words.items name ≡ named_words s name) → AreZero seen.0 seen.1 → HasZeros t
  zeros_stored sound others zeros =
      subst (λ (m : Module). AreZero m t.words.items) (sym same)
      (edge_zero s.circuit s.words.items t.words.items sound others (subst (λ (c : Module × List ℕ × List Bool). AreZero c.0 c.1) (sym kept) zeros))
