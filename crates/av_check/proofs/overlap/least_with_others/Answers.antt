use Rattle.std.proofs.Common.{◌<◌, length, rules}
use Rattle.av_check.proofs.Counting.{least_shared_by}
use Rattle.av_check.proofs.overlap.least_with_others.Goals as goal

pub loop-other-preserved : goal.loop-other-preserved
loop-other-preserved c =
    let l : c.loop-other.other-index < length c.args.others.now = search rules in
    least_shared_by c.args.domain.now c.args.set.now c.args.others.now c.loop-other.other-index c.other-item.result c.loop-other.least c.in_ok-next.next c.lesser-least.result l c.other-item.is
    c.loop-other.invariant c.in_ok-next.ensures c.lesser-least.ensures
