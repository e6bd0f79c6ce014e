use Rattle.std.proofs.Common.{◌+◌, ◌∙◌, ap}
use Rattle.av_net.specs.declared.operation.Operand.{Operand}
use Rattle.av_net.specs.declared.operation.Operand.TheVariants.{Name}
use Rattle.av_kinds.specs.Names.{numbered, bound_name}
use Rattle.av_kinds.proofs.InterfaceSteps.{arm_put, arm_at}
use Rattle.av_kinds.proofs.interface.arms.Goals as goal

pub loop-k-preserved : goal.loop-k-preserved
loop-k-preserved c =
    arm_put (numbered c.args.letter.now) c.args.word c.args.bound c.loop-k.k c.loop-k.arms c.push.new.self (arm_at c.in_ok-named.field-0 c.in_ok-named-2.field-0)
    c.loop-k.invariant c.in_ok-push.ensures.ok
    (ap (λ (x : Operand). arm_at x c.in_ok-named-2.field-0) c.in_ok-named.ensures ∙ ap (λ (x : Operand). arm_at (Name (bound_name (c.args.bound + c.loop-k.k))) x) c.in_ok-named-2.ensures)
