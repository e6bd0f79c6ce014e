use Rattle.std.proofs.Common.{sym, subst, arith}
use Rattle.av_commands.proofs.LanesFed.{AreColumns, no_columns, columns_more}
use Rattle.av_commands.proofs.lane_showing.columns.Goals as goal

pub loop-k-init : goal.loop-k-init
loop-k-init c = subst (AreColumns c.args.rows.now 0) (sym c.new-columns.ensures) (no_columns c.args.rows.now)

pub loop-k-preserved : goal.loop-k-preserved
loop-k-preserved c = columns_more c.args.rows.now c.loop-k.k c.loop-k.columns c.push.new.self c.in_ok-column.field-0 c.loop-k.invariant c.in_ok-column.ensures c.in_ok-push.ensures.ok

pub returns-clause-count : goal.returns-clause-count
returns-clause-count c =
    let many = c.loop-k.invariant.many in
    let test = c.loop-k-test.false in
    let end = c.loop-k.auto.k-end in
    omega (arith, many, test, end)

pub returns-clause-words : goal.returns-clause-words
returns-clause-words c = c.loop-k.invariant.each
