use Rattle.std.proofs.Common.{inr, arith}
use Rattle.av_vtext.proofs.Links.{none_put, one_put, all_put, next_item}
use Rattle.av_vtext.proofs.plan.write_more_links.Goals as goal

pub loop-at-init : goal.loop-at-init
loop-at-init g c = none_put _ _ _ _

pub loop-at-preserved : goal.loop-at-preserved
loop-at-preserved g c =
    one_put c.index-ports-at.result c.index-operands-at.result c.loop-at.invariant c.put.ensures c.write_link.ensures
    (next_item c.args.ports.now c.loop-at.at c.index-ports-at.result c.loop-at-test.true c.index-ports-at.is)
    (next_item c.args.operands.now c.loop-at.at c.index-operands-at.result c.if-at-operands.true c.index-operands-at.is)

pub returns-else-at-operands : goal.returns-else-at-operands
returns-else-at-operands g c = all_put c.loop-at.invariant (inr (let past = c.if-at-operands.false in omega (arith, past)))
