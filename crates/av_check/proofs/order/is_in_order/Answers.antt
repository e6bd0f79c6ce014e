use Rattle.std.proofs.Common.{◌<◌, length, sym, ◌∙◌, arith, rules}
use Rattle.std.proofs.lemmas.Grind.{common_steps}
use Rattle.av_check.proofs.Lexicographic.{order_ended}
use Rattle.av_check.proofs.order.is_in_order.Goals as goal

pub returns-then-k-other : goal.returns-then-k-other
returns-then-k-other c =
    let l : c.loop-k.k < length c.args.some.now = search rules in
    let e = c.if-k-other.true in
    sym (order_ended c.args.some.now c.args.other.now c.loop-k.k l (omega (arith, e))) ∙ c.loop-k.invariant.same

pub loop-k-preserved : goal.loop-k-preserved
loop-k-preserved c = grind (arith, common_steps)
