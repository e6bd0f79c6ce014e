use Rattle.std.proofs.Common.{inr, arith}
use Rattle.std.proofs.lemmas.List.{length-map}
use Rattle.av_net.specs.declared.operation.Operand.TheVariants.{Name}
use Rattle.av_vtext.proofs.Links.{none_put, one_put, all_put, next_item, next_name}
use Rattle.av_vtext.proofs.plan.write_more_names.Goals as goal

pub loop-at-init : goal.loop-at-init
loop-at-init g c = none_put _ _ _ _

pub loop-at-preserved : goal.loop-at-preserved
loop-at-preserved g c =
    one_put c.index-ports-at.result (Name c.index-names-at.result) c.loop-at.invariant c.put.ensures c.write_name_link.ensures
    (next_item c.args.ports.now c.loop-at.at c.index-ports-at.result c.loop-at-test.true c.index-ports-at.is)
    (next_name c.args.names.now c.loop-at.at c.index-names-at.result c.if-at-names.true c.index-names-at.is)

pub returns-else-at-names : goal.returns-else-at-names
returns-else-at-names g c = all_put c.loop-at.invariant (inr (let past = c.if-at-names.false in omega (arith, past, length-map c.args.names.now Name)))
