use Rattle.av_kinds.proofs.InstanceSteps.{window_put, windows_put}
use Rattle.std.proofs.Common.{◌++◌, rules}
use Rattle.av_kinds.specs.inner.Instances.{windows_for}
use Rattle.av_kinds.proofs.instance.add_windows.Goals as goal

pub loop-k-preserved : goal.loop-k-preserved
loop-k-preserved c =
    window_put c.args.count c.args.windows.now c.loop-k.k c.loop-k.operands c.push.new.self c.push-in-loop-k.new.self (c.args.operands.now ++ windows_for c.args.count c.args.windows.now) c.window_at-window.result c.bound.result c.bound-in-loop-k.result
    c.loop-k.invariant c.window_at-window.ensures c.bound.ensures c.bound-in-loop-k.ensures c.in_ok-push.ensures.ok c.in_ok-push-2.ensures.ok

pub returns : goal.returns
returns c =
    windows_put c.args.count c.args.windows.now c.loop-k.k c.loop-k.operands (c.args.operands.now ++ windows_for c.args.count c.args.windows.now) c.loop-k.invariant (search rules)
