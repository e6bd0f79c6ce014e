use Rattle.std.proofs.Common.{length, get_or, arith}
use Rattle.av_clock.proofs.Edges.{no_flip_flop}
use Rattle.av_lanes.proofs.Ordering.{register_within, for_step, marks_more}
use Rattle.av_lanes.proofs.order.are_stored.Goals as goal

pub bounds-stored-flip_flop : goal.bounds-stored-flip_flop
bounds-stored-flip_flop c = register_within c.args.circuit.now (length c.args.stored.now) c.loop-flip_flop.flip_flop-index (get_or c.flip_flops-flip_flop-items.result.now c.loop-flip_flop.flip_flop-index no_flip_flop) c.requires.size (for_step c.args.circuit.now c.loop-flip_flop.flip_flop-index c.flip_flops-flip_flop-items.result.now c.flip_flops-flip_flop-items.ensures c.loop-flip_flop-test.true)

pub loop-flip_flop-preserved : goal.loop-flip_flop-preserved
loop-flip_flop-preserved c = marks_more c.args.circuit.now c.flip_flops-flip_flop-items.result.now c.args.stored.now c.loop-flip_flop.flip_flop-index c.requires.sound (for_step c.args.circuit.now c.loop-flip_flop.flip_flop-index c.flip_flops-flip_flop-items.result.now c.flip_flops-flip_flop-items.ensures c.loop-flip_flop-test.true) c.if-not-stored-flip_flop.false c.loop-flip_flop.invariant

pub returns : goal.returns
returns c = λ yes i place d lt at.
    let end = c.loop-flip_flop-test.false in
    let count = c.flip_flops-flip_flop-items.ensures.count in
    c.loop-flip_flop.invariant i place d (omega (arith, lt, end, count)) at
