use Rattle.std.proofs.Common.{◌<◌, ◌∙◌, length, get_or, arith}
use Rattle.av_clock.proofs.Edges.{no_flip_flop}
use Rattle.av_lanes.proofs.Ordering.{register_within, for_step}
use Rattle.av_lanes.proofs.order.enter_steps.Goals as goal

pub bounds-steps-flip_flop : goal.bounds-steps-flip_flop
bounds-steps-flip_flop c = register_within c.args.circuit.now (length c.loop-i.steps) c.loop-i.i (get_or c.flip_flops-flip_flop-items.result.now c.loop-i.i no_flip_flop) (c.loop-i.auto.steps ∙ c.requires.size) (for_step c.args.circuit.now c.loop-i.i c.flip_flops-flip_flop-items.result.now c.flip_flops-flip_flop-items.ensures c.loop-i-test.true)

pub offset_bounds-steps-flip_flop : goal.offset_bounds-steps-flip_flop
offset_bounds-steps-flip_flop c =
    let within : (get_or c.flip_flops-flip_flop-items.result.now c.loop-i.i no_flip_flop).register < length c.loop-i.steps =
    register_within c.args.circuit.now (length c.loop-i.steps) c.loop-i.i (get_or c.flip_flops-flip_flop-items.result.now c.loop-i.i no_flip_flop) (c.loop-i.auto.steps ∙ c.requires.size) (for_step c.args.circuit.now c.loop-i.i c.flip_flops-flip_flop-items.result.now c.flip_flops-flip_flop-items.ensures c.loop-i-test.true) in
    omega arith
