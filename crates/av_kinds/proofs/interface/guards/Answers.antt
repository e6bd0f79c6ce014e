use Rattle.std.proofs.Common.{◌∙◌, ◌+◌, ◌*◌, ap}
use Rattle.av_net.specs.declared.operation.Operand.{Operand}
use Rattle.av_net.specs.declared.operation.Operand.TheVariants.{Name}
use Rattle.av_kinds.specs.Names.{bound_name}
use Rattle.av_kinds.proofs.InterfaceSteps.{guard_at, guard_put}
use Rattle.av_kinds.proofs.interface.guards.Goals as goal

pub loop-k-preserved : goal.loop-k-preserved
loop-k-preserved c =
    guard_put c.args.bound c.loop-k.k c.loop-k.guards c.push.new.self (guard_at c.in_ok-named.field-0 c.in_ok-named-2.field-0) c.loop-k.invariant c.in_ok-push.ensures.ok
    (ap (λ (x : Operand). guard_at x c.in_ok-named-2.field-0) c.in_ok-named.ensures ∙ ap (guard_at (Name (bound_name (c.args.bound + 2 * c.loop-k.k)))) c.in_ok-named-2.ensures)
