use Rattle.av_parse.proofs.Compared.{with_each_step}
use Rattle.av_parse.proofs.domain.compare_with_each.Goals as goal

pub loop-right-preserved : goal.loop-right-preserved
loop-right-preserved c =
    let made = rw (c.in_ok-index.ensures, c.in_ok-index-2.ensures) at c.in_ok-push.ensures.ok in
    with_each_step c.args.found.now c.loop-right.found c.push.new.self c.args.left.now c.args.relation c.args.rights.now c.loop-right.right-index c.right-item.result c.loop-right-test.true c.right-item.is c.loop-right.invariant made
