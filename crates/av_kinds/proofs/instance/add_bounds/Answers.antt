use Rattle.av_kinds.proofs.InstanceSteps.{bound_put, bounds_put}
use Rattle.std.proofs.Common.{◌++◌, rules}
use Rattle.av_kinds.specs.inner.Instances.{bounds_for}
use Rattle.av_kinds.proofs.instance.add_bounds.Goals as goal

pub loop-k-preserved : goal.loop-k-preserved
loop-k-preserved c =
    bound_put c.args.count c.args.selections.now c.loop-k.k c.loop-k.operands c.push.new.self (c.args.operands.now ++ bounds_for c.args.count c.args.selections.now) c.last_at.result c.bound.result
    c.loop-k.invariant c.last_at.ensures c.bound.ensures c.in_ok-push.ensures.ok

pub returns : goal.returns
returns c =
    bounds_put c.args.count c.args.selections.now c.loop-k.k c.loop-k.operands (c.args.operands.now ++ bounds_for c.args.count c.args.selections.now) c.loop-k.invariant (search rules)
