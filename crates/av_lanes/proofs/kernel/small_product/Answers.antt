use Rattle.av_lanes.proofs.kernel.small_product.Goals as goal

pub returns : goal.returns
returns c k lt = c.masked_product.ensures c.args.width.bits c.requires c.greatest.ensures k lt
