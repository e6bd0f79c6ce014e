use Rattle.std.proofs.Common.{List, ℕ, ◌∙◌, ap, sym, subst, arith}
use Rattle.std.proofs.lemmas.Grind.{common_steps}
use Rattle.av_clock.specs.Gates.{CanTake, gate_word}
use Rattle.av_clock.proofs.Held.{marked_for, computed, computed_fits}
use Rattle.av_clock.proofs.Marking.{set_within}
use Rattle.av_clock.proofs.Settling.{assignment_takes, target_within}
use Rattle.av_clock.proofs.state.State.compute.Goals as goal

pub word-word-requires : goal.word-word-requires
word-word-requires c =
    let s = c.args.self.now in
    let for = marked_for s.circuit s.stale c.args.drive c.assignments.result.now c.index-assignments-drive.result c.requires.marked s.stale_size c.assignments.ensures c.index-assignments-drive.is in
    subst (λ (ws : List ℕ). CanTake ws c.index-assignments-drive.result.gate) (sym c.deref.ensures.value) (assignment_takes s.circuit s.words.items c.args.drive c.index-assignments-drive.result c.is_sound.ensures s.size for s.fit)

pub write-requires-clause-place : goal.write-requires-clause-place
write-requires-clause-place c =
    let s = c.args.self.now in
    let for = marked_for s.circuit s.stale c.args.drive c.assignments.result.now c.index-assignments-drive.result c.requires.marked s.stale_size c.assignments.ensures c.index-assignments-drive.is in
    target_within s.circuit s.words.items c.args.drive c.index-assignments-drive.result s.size for

pub write-requires-clause-fits : goal.write-requires-clause-fits
write-requires-clause-fits c =
    let s = c.args.self.now in
    let for = marked_for s.circuit s.stale c.args.drive c.assignments.result.now c.index-assignments-drive.result c.requires.marked s.stale_size c.assignments.ensures c.index-assignments-drive.is in
    computed_fits s.circuit c.args.drive c.index-assignments-drive.result s.words.items c.word-word.result c.is_sound.ensures s.size for (c.word-word.ensures ∙ ap (λ ws. gate_word ws c.index-assignments-drive.result.gate) c.deref.ensures.value) s.fit

pub returns-clause-computed : goal.returns-clause-computed
returns-clause-computed c =
    let s = c.args.self.now in
    let for = marked_for s.circuit s.stale c.args.drive c.assignments.result.now c.index-assignments-drive.result c.requires.marked s.stale_size c.assignments.ensures c.index-assignments-drive.is in
    computed s.circuit c.args.drive c.index-assignments-drive.result s.words.items c.write.new.self.words.items c.word-word.result s.stale c.clear.new.self c.write.new.self.stale s.due c.write.new.self.due
    c.is_sound.ensures s.size for (c.word-word.ensures ∙ ap (λ ws. gate_word ws c.index-assignments-drive.result.gate) c.deref.ensures.value)
    (set_within s.stale c.args.drive c.requires.marked) s.fit c.requires.held c.clear.ensures c.write.ensures.words c.write.ensures.same c.write.ensures.ahead

pub bounds-assignments-drive : goal.bounds-assignments-drive
bounds-assignments-drive c = grind (arith, common_steps)

pub clear-requires : goal.clear-requires
clear-requires c = grind (arith, common_steps)

pub offset_bounds-assignments-drive : goal.offset_bounds-assignments-drive
offset_bounds-assignments-drive c = grind (arith, common_steps)

pub invariant_of-self : goal.invariant_of-self
invariant_of-self c = grind (arith, common_steps)

pub invariant_of-self-2 : goal.invariant_of-self-2
invariant_of-self-2 c = grind (arith, common_steps)
