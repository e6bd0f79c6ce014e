use Rattle.av_space.proofs.apart.is_below_both.Goals as goal

pub returns-then-is_below : goal.returns-then-is_below
returns-then-is_below c = λ t z between h. between c.args.row.now (c.is_below.ensures c.if-is_below.true) (c.is_below-then-is_below.ensures t) h
