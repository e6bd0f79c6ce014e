use Rattle.std.specs.List.{range_with_len}
use Rattle.std.proofs.Common.{◌-◌, length, arith}
use Rattle.av_build.proofs.OrderSteps.{late_more, early_more, whole_order}
use Rattle.av_build.proofs.order.in_order.Goals as goal

pub loop-late-preserved : goal.loop-late-preserved
loop-late-preserved c = late_more c.loop-late.order c.push.new.self c.before_start-start.result c.loop-late.late c.loop-late.auto.late c.loop-late.invariant c.in_ok-push.ensures.ok

pub loop-early-preserved : goal.loop-early-preserved
loop-early-preserved c =
    early_more (range_with_len c.before_start-start.result (length c.args.slots.now - c.before_start-start.result)) c.loop-early.order c.push-in-loop-early.new.self c.loop-early.early c.loop-early.invariant c.in_ok-push-2.ensures.ok

pub returns : goal.returns
returns c =
    let high = c.before_start-start.ensures.high in
    let low = c.loop-early.auto.early-end in
    let end = c.loop-early-test.false in
    whole_order c.args.counter c.requires.counter c.args.slots.now c.requires.ascend c.requires.within c.before_start-start.result c.loop-early.early c.before_start-start.ensures c.loop-early.order c.loop-early.invariant (omega (arith, low, end))
