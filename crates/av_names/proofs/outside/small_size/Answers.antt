use Rattle.av_names.proofs.Summed.{small_there}
use Rattle.av_names.specs.inner.Sums.{sizes_in}
use Rattle.av_names.proofs.outside.small_size.Goals as goal

pub returns-clause-small : goal.returns-clause-small
returns-clause-small c = small_there c.size_at.result (sizes_in c.args.sizes.now c.args.name.now) c.size_at.ensures (c.requires c.args.name.now)
