use Rattle.std.proofs.Common.{length, get_or}
use Rattle.av_clock.proofs.Edges.{no_flip_flop}
use Rattle.av_lanes.proofs.Ordering.{next_within, register_within, for_step, tests_none, tests_more, is_order}
use Rattle.av_lanes.proofs.order.is_order.Goals as goal

pub is_unread-requires : goal.is_unread-requires
is_unread-requires c =
    let step = get_or c.args.order.now c.loop-i.i 0 in
    next_within c.args.circuit.now (length c.loop-i.stored) step (get_or c.flip_flops-flip_flops.result.now step no_flip_flop) c.loop-i.invariant.size
    (for_step c.args.circuit.now step c.flip_flops-flip_flops.result.now c.flip_flops-flip_flops.ensures c.if-step-flip_flops.false)

pub bounds-stored-flip_flops : goal.bounds-stored-flip_flops
bounds-stored-flip_flops c =
    let step = get_or c.args.order.now c.loop-i.i 0 in
    register_within c.args.circuit.now (length c.loop-i.stored) step (get_or c.flip_flops-flip_flops.result.now step no_flip_flop) c.loop-i.invariant.size
    (for_step c.args.circuit.now step c.flip_flops-flip_flops.result.now c.flip_flops-flip_flops.ensures c.if-step-flip_flops.false)

pub loop-i-init : goal.loop-i-init
loop-i-init c = tests_none c.args.circuit.now c.args.order.now c.args.stored.now c.requires.none

pub loop-i-preserved : goal.loop-i-preserved
loop-i-preserved c =
    let step = get_or c.args.order.now c.loop-i.i 0 in
    tests_more c.args.circuit.now c.args.order.now c.loop-i.stored c.loop-i.i (get_or c.flip_flops-flip_flops.result.now step no_flip_flop) c.requires.sound
    (for_step c.args.circuit.now step c.flip_flops-flip_flops.result.now c.flip_flops-flip_flops.ensures c.if-step-flip_flops.false) (c.is_unread.ensures c.if-not-is_unread.false) c.loop-i.invariant

pub returns : goal.returns
returns c = λ yes.
    is_order c.args.circuit.now c.args.order.now c.loop-i.stored c.flip_flops-flip_flops.result.now c.loop-i.i c.requires.sound c.flip_flops-flip_flops.ensures c.loop-i-test.false c.loop-i.auto.i-end (c.are_stored.ensures yes) c.loop-i.invariant
