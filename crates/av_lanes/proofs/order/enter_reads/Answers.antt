use Rattle.std.proofs.Common.{length, get_or}
use Rattle.av_clock.proofs.Edges.{no_flip_flop}
use Rattle.av_lanes.proofs.Ordering.{next_within, for_step}
use Rattle.av_lanes.proofs.order.enter_reads.Goals as goal

pub step_read-read-requires : goal.step_read-read-requires
step_read-read-requires c = next_within c.args.circuit.now (length c.args.steps.now) c.loop-i.i (get_or c.flip_flops-flip_flop-items.result.now c.loop-i.i no_flip_flop) c.requires.size (for_step c.args.circuit.now c.loop-i.i c.flip_flops-flip_flop-items.result.now c.flip_flops-flip_flop-items.ensures c.loop-i-test.true)
