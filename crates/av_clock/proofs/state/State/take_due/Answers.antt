use Rattle.std.proofs.Common.{◌≡◌, ◌<◌, ◌∙◌, ap, false, get_or, length, arith}
use Rattle.std.proofs.Math.ListN.{length-set}
use Rattle.std.proofs.lemmas.Grind.{common_steps}
use Rattle.av_clock.specs.Gates.{reading_word}
use Rattle.av_clock.proofs.Edges.{no_flip_flop, for_read, next_within}
use Rattle.av_clock.proofs.Taking.{takes_more}
use Rattle.av_clock.proofs.state.State.take_due.Goals as goal

pub word-requires : goal.word-requires
word-requires c =
    let s = c.args.self.now in
    let for = for_read s.circuit c.flip_flops-flip_flops.result.now c.loop-step.step c.flip_flops-flip_flops.ensures c.loop-step-test.true in
    next_within s.circuit c.as_slice-words.result.now c.loop-step.step (get_or c.flip_flops-flip_flops.result.now c.loop-step.step no_flip_flop) (ap length c.as_slice-words.ensures.value ∙ s.size) for

pub loop-step-preserved : goal.loop-step-preserved
loop-step-preserved c =
    let s = c.args.self.now in
    let for = for_read s.circuit c.flip_flops-flip_flops.result.now c.loop-step.step c.flip_flops-flip_flops.ensures c.loop-step-test.true in
    let long : length c.clear.new.self ≡ length c.loop-step.due = rw c.clear.ensures (length-set c.loop-step.due c.loop-step.step false) in
    let size : length c.loop-step.due ≡ length s.due = c.loop-step.invariant.size in
    let within : c.loop-step.step < length s.circuit.steps = for.within in
    takes_more s.circuit s.words.items s.due c.loop-step.due c.clear.new.self c.loop-step.taken c.loop-step.next c.loop-step.count c.loop-step.step c.word.result c.next-step-in-loop-step.result (get_or c.flip_flops-flip_flops.result.now c.loop-step.step no_flip_flop)
    c.is_sound.ensures s.size c.requires.held.steps s.due_size within for (c.word.ensures ∙ ap (λ ws. reading_word ws (get_or c.flip_flops-flip_flops.result.now c.loop-step.step no_flip_flop).next) c.as_slice-words.ensures.value) c.clear.ensures
    c.next-step-in-loop-step.ensures.within c.next-step-in-loop-step.ensures.clear c.next-step-in-loop-step.ensures.set (c.next-step-in-loop-step.ensures.later (omega (arith, long, size, s.due_size, within))) c.loop-step.invariant

pub returns-clause-taken : goal.returns-clause-taken
returns-clause-taken c = grind (arith, common_steps)

pub returns-clause-within : goal.returns-clause-within
returns-clause-within c = grind (arith, common_steps)

pub invariant_of-self : goal.invariant_of-self
invariant_of-self c = grind (arith, common_steps)

pub loop-step-init : goal.loop-step-init
loop-step-init c = grind (arith, common_steps)

pub loop-step-smaller : goal.loop-step-smaller
loop-step-smaller c = grind (arith, common_steps)
