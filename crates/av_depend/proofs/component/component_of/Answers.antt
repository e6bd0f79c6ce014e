use Rattle.std.proofs.Common.{rules, sym, subst, ◌+◌, IsTrue, arith}
use Rattle.std.proofs.lemmas.Grind.{common_steps}
use Rattle.av_depend.proofs.Together.{IsPart, part_more}
use Rattle.av_depend.proofs.component.component_of.Goals as goal

pub loop-other-preserved : goal.loop-other-preserved
loop-other-preserved c =
    let t : IsTrue c.are_together.result = search rules in
    subst (IsPart c.args.rows.now c.args.node.0 (c.loop-other.other + 1)) (sym c.in_ok-push.ensures.ok) (part_more c.args.rows.now c.args.node.0 c.loop-other.other c.loop-other.list c.loop-other.invariant (c.are_together.ensures.0 t))

pub loop-other-init : goal.loop-other-init
loop-other-init c = grind (arith, common_steps)

pub returns : goal.returns
returns c = grind (arith, common_steps)
