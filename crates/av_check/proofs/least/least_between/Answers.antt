use Rattle.av_check.proofs.Counting.{least_off}
use Rattle.av_check.proofs.least.least_between.Goals as goal

pub returns : goal.returns
returns c = least_off c.args.domain.now c.args.sets.now c.in_ok-shared.shared c.in_ok-left.left c.lesser.result c.in_ok-shared.ensures c.in_ok-left.ensures c.lesser.ensures
