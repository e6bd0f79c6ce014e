use Rattle.std.proofs.Common.{List, ℕ, Bool, true, sym, subst, slice_index_or, arith}
use Rattle.std.proofs.lemmas.Grind.{common_steps}
use Rattle.av_net.specs.declared.netlist.Module.{Module}
use Rattle.av_clock.specs.Marked.{AreHeld}
use Rattle.av_clock.specs.inner.State.{named_words}
use Rattle.av_clock.proofs.Storing.{edge_stored, ports_stored, zeros_stored}
use Rattle.av_clock.proofs.Taking.{reset_within, reset_due_fit, reset_due, reset_held}
use Rattle.av_clock.proofs.state.State.reset.Goals as goal

pub store_taken-requires-clause-within : goal.store_taken-requires-clause-within
store_taken-requires-clause-within c = λ j lt. reset_within c.reset_words.new.self.circuit c.reset_words.new.self.taken.items c.reset_words.ensures.steps j (rw c.steps-count.ensures at lt)

pub store_taken-requires-clause-fitting : goal.store_taken-requires-clause-fitting
store_taken-requires-clause-fitting c = λ j d lt.
    let s = c.reset_words.new.self in
    reset_due_fit s.circuit (named_words s) s.taken.items s.next.items c.is_sound.ensures c.reset_words.ensures.steps c.reset_words.ensures.words j d (rw c.steps-count.ensures at lt)

pub returns-clause-edge : goal.returns-clause-edge
returns-clause-edge c =
    let s = c.reset_words.new.self in
    edge_stored _ s c.store_taken.new.self c.reset_words.ensures.kept c.store_taken.ensures.circuit true (λ k d lt.
    c.store_taken.ensures.registers (λ i. (slice_index_or s.circuit.steps i d).reset)
    (rw c.steps-count.ensures (reset_due s.circuit (named_words s) s.taken.items s.next.items d c.reset_words.ensures.steps c.reset_words.ensures.words)) k d lt)

pub returns-clause-ports : goal.returns-clause-ports
returns-clause-ports c = ports_stored _ c.reset_words.new.self c.store_taken.new.self c.reset_words.ensures.kept c.store_taken.ensures.circuit c.is_sound.ensures c.store_taken.ensures.others

pub returns-clause-held : goal.returns-clause-held
returns-clause-held c = λ held.
    let s = c.reset_words.new.self in
    let t = c.store_taken.new.self in
    let before = subst (λ (due : List Bool). AreHeld s.circuit s.words.items s.stale due) (sym c.reset_words.ensures.due)
    (subst (λ (kept : Module × List ℕ × List Bool). AreHeld kept.0 kept.1 kept.2 c.args.self.now.due) (sym c.reset_words.ensures.kept) held) in
    subst (λ (m : Module). AreHeld m t.words.items t.stale c.fill.new.self) (sym c.store_taken.ensures.circuit)
    (reset_held s.circuit s.words.items t.words.items s.stale t.stale s.due t.due _ _ c.is_sound.ensures c.store_taken.ensures.same c.store_taken.ensures.others c.fill.ensures before)

pub returns-clause-zeros : goal.returns-clause-zeros
returns-clause-zeros c = zeros_stored _ c.reset_words.new.self c.store_taken.new.self c.reset_words.ensures.kept c.store_taken.ensures.circuit c.is_sound.ensures c.store_taken.ensures.others

pub invariant_of-self : goal.invariant_of-self
invariant_of-self c = grind (arith, common_steps)
