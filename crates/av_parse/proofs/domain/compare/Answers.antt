use Rattle.av_parse.proofs.Compared.{compared_step}
use Rattle.av_parse.proofs.domain.compare.Goals as goal

pub loop-left-preserved : goal.loop-left-preserved
loop-left-preserved c =
    compared_step c.args.found.now c.loop-left.found c.compare_with_each.new.found c.args.lefts.now c.args.relation c.args.rights.now c.loop-left.left-index c.left-item.result c.loop-left-test.true c.left-item.is c.loop-left.invariant c.in_ok-compare_with_each.ensures
