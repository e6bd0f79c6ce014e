use Rattle.std.proofs.Common.{◌∙◌, ap, get_or, length, arith}
use Rattle.std.proofs.lemmas.Grind.{common_steps}
use Rattle.av_clock.specs.Gates.{reading_word}
use Rattle.av_clock.proofs.Edges.{no_flip_flop, for_read, next_within, next_more}
use Rattle.av_clock.proofs.state.State.next_words.Goals as goal

pub word-requires : goal.word-requires
word-requires c =
    let m = c.args.self.now.circuit in
    let flip_flops = c.flip_flops-flip_flop-items.result.now in
    next_within m c.as_slice-words.result.now c.loop-i.i (get_or flip_flops c.loop-i.i no_flip_flop) (ap length c.as_slice-words.ensures.value ∙ c.args.self.now.size)
    (for_read m flip_flops c.loop-i.i c.flip_flops-flip_flop-items.ensures c.loop-i-test.true)

pub loop-i-preserved : goal.loop-i-preserved
loop-i-preserved c =
    let s = c.args.self.now in
    let m = s.circuit in
    let flip_flops = c.flip_flops-flip_flop-items.result.now in
    next_more m s.words.items c.loop-i.next c.loop-i.i (get_or flip_flops c.loop-i.i no_flip_flop) c.word.result c.is_sound.ensures s.size (c.loop-i.auto.next ∙ ap length c.as_mut_slice-next.ensures.value ∙ s.next_size)
    (for_read m flip_flops c.loop-i.i c.flip_flops-flip_flop-items.ensures c.loop-i-test.true)
    (c.word.ensures ∙ ap (λ ws. reading_word ws (get_or flip_flops c.loop-i.i no_flip_flop).next) c.as_slice-words.ensures.value) c.loop-i.invariant

pub invariant_of-self : goal.invariant_of-self
invariant_of-self c = grind (arith, common_steps)

pub returns-clause-taken : goal.returns-clause-taken
returns-clause-taken c = grind (arith, common_steps)
