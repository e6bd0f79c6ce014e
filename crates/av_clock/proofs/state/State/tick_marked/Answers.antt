use Rattle.std.proofs.Common.{List, ℕ, Bool, false, sym, subst, slice_index_or, arith}
use Rattle.std.proofs.lemmas.Grind.{common_steps}
use Rattle.av_net.specs.declared.netlist.Module.{Module}
use Rattle.av_net.specs.Meaning.{word_of}
use Rattle.av_clock.specs.Marked.{AreHeld}
use Rattle.av_clock.specs.inner.State.{named_words}
use Rattle.av_clock.proofs.Storing.{edge_stored, ports_stored, zeros_stored}
use Rattle.av_clock.proofs.Taking.{due_fit, tick_held}
use Rattle.av_clock.proofs.Views.{anew_held}
use Rattle.av_clock.proofs.state.State.tick_marked.Goals as goal

pub take_due-count-requires : goal.take_due-count-requires
take_due-count-requires c =
    let s = c.args.self.now in
    record { held = anew_held s.circuit s.words.items c.args.dense s.stale c.mark_anew.new.stale s.due c.mark_anew.new.due c.mark_anew.ensures.dense c.mark_anew.ensures.kept c.requires.held c.requires.settled }

pub store_taken-requires-clause-fitting : goal.store_taken-requires-clause-fitting
store_taken-requires-clause-fitting c =
    let s = c.take_due-count.new.self in
    due_fit s.circuit s.words.items s.taken.items s.next.items c.take_due-count.result c.is_sound.ensures s.fit c.take_due-count.ensures.within c.take_due-count.ensures.taken

pub returns-clause-edge : goal.returns-clause-edge
returns-clause-edge c =
    let s = c.take_due-count.new.self in
    edge_stored _ s c.store_taken.new.self c.take_due-count.ensures.kept c.store_taken.ensures.circuit false
    (λ k d lt. c.store_taken.ensures.registers (λ i. word_of (named_words s) (slice_index_or s.circuit.steps i d).next) (c.take_due-count.ensures.taken d) k d lt)

pub returns-clause-ports : goal.returns-clause-ports
returns-clause-ports c = ports_stored _ c.take_due-count.new.self c.store_taken.new.self c.take_due-count.ensures.kept c.store_taken.ensures.circuit c.is_sound.ensures c.store_taken.ensures.others

pub returns-clause-held : goal.returns-clause-held
returns-clause-held c =
    let first = c.args.self.now in
    let s = c.take_due-count.new.self in
    let t = c.store_taken.new.self in
    let anew = anew_held first.circuit first.words.items c.args.dense first.stale c.mark_anew.new.stale first.due c.mark_anew.new.due c.mark_anew.ensures.dense c.mark_anew.ensures.kept c.requires.held c.requires.settled in
    let before = subst (λ (kept : Module × List ℕ × List Bool). AreHeld kept.0 kept.1 kept.2 c.mark_anew.new.due) (sym c.take_due-count.ensures.kept) anew in
    subst (λ (m : Module). AreHeld m t.words.items t.stale t.due) (sym c.store_taken.ensures.circuit)
    (tick_held s.circuit s.words.items t.words.items s.stale t.stale c.mark_anew.new.due s.due t.due c.is_sound.ensures before c.store_taken.ensures.same c.store_taken.ensures.others
    (λ k d lt. c.store_taken.ensures.registers (λ i. word_of (named_words s) (slice_index_or s.circuit.steps i d).next) (c.take_due-count.ensures.taken d) k d lt))

pub returns-clause-zeros : goal.returns-clause-zeros
returns-clause-zeros c = zeros_stored _ c.take_due-count.new.self c.store_taken.new.self c.take_due-count.ensures.kept c.store_taken.ensures.circuit c.is_sound.ensures c.store_taken.ensures.others

pub invariant_of-self : goal.invariant_of-self
invariant_of-self c = grind (arith, common_steps)
