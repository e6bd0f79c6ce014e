use Rattle.av_clock.proofs.Extended.{copies}
use Rattle.av_lanes.proofs.kernel.ones_above.Goals as goal

pub returns : goal.returns
returns c = copies c.args.width.bits c.args.by c.args.width.least c.requires
