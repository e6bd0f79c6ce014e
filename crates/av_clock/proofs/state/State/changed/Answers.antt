use Rattle.std.proofs.Common.{◌<◌, ◌∙◌, ap, get_or, length, arith}
use Rattle.av_clock.proofs.Edges.{no_flip_flop, for_read, next_within, register_within}
use Rattle.av_clock.proofs.state.State.changed.Goals as goal

pub word-requires : goal.word-requires
word-requires c =
    let m = c.args.self.now.circuit in
    let flip_flops = c.flip_flops-flip_flop-items.result.now in
    next_within m c.as_slice-words.result.now c.loop-flip_flop.flip_flop-index (get_or flip_flops c.loop-flip_flop.flip_flop-index no_flip_flop) (ap length c.as_slice-words.ensures.value ∙ c.args.self.now.size)
    (for_read m flip_flops c.loop-flip_flop.flip_flop-index c.flip_flops-flip_flop-items.ensures c.loop-flip_flop-test.true)

pub bounds-words-flip_flop : goal.bounds-words-flip_flop
bounds-words-flip_flop c =
    let m = c.args.self.now.circuit in
    let flip_flops = c.flip_flops-flip_flop-items.result.now in
    register_within m c.as_slice-words.result.now c.loop-flip_flop.flip_flop-index (get_or flip_flops c.loop-flip_flop.flip_flop-index no_flip_flop) (ap length c.as_slice-words.ensures.value ∙ c.args.self.now.size)
    (for_read m flip_flops c.loop-flip_flop.flip_flop-index c.flip_flops-flip_flop-items.ensures c.loop-flip_flop-test.true)

pub offset_bounds-words-flip_flop : goal.offset_bounds-words-flip_flop
offset_bounds-words-flip_flop c =
    let m = c.args.self.now.circuit in
    let flip_flops = c.flip_flops-flip_flop-items.result.now in
    let within : (get_or flip_flops c.loop-flip_flop.flip_flop-index no_flip_flop).register < length c.as_slice-words.result.now =
    register_within m c.as_slice-words.result.now c.loop-flip_flop.flip_flop-index (get_or flip_flops c.loop-flip_flop.flip_flop-index no_flip_flop) (ap length c.as_slice-words.ensures.value ∙ c.args.self.now.size)
    (for_read m flip_flops c.loop-flip_flop.flip_flop-index c.flip_flops-flip_flop-items.ensures c.loop-flip_flop-test.true) in
    omega arith
