use Rattle.std.proofs.Common.{◌<◌, length, rules}
use Rattle.av_check.proofs.Counting.{least_shared}
use Rattle.av_check.proofs.overlap.least_overlap.Goals as goal

pub loop-k-preserved : goal.loop-k-preserved
loop-k-preserved c =
    let l : c.loop-k.k < length c.args.sets.now = search rules in
    least_shared c.args.domain.now c.args.sets.now c.loop-k.k c.index-sets-k.result c.loop-k.least c.in_ok-next.next c.lesser-least.result l c.index-sets-k.is
    c.loop-k.invariant c.in_ok-next.ensures c.lesser-least.ensures
