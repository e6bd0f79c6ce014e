use Rattle.std.proofs.Common.{arith}
use Rattle.std.proofs.lemmas.Grind.{common_steps}
use Rattle.av_tree.specs.Rows.{is_index}
use Rattle.av_names.proofs.Repeats.{again_later, was_new}
use Rattle.av_names.proofs.name_sets.first_again.Goals as goal

pub loop-item-preserved : goal.loop-item-preserved
loop-item-preserved g c =
    again_later g.T.HasName.name_of c.args.before.now c.loop-item.before c.put_name.new.set c.args.items.now c.loop-item.item-index c.item-item.result c.loop-item-test.true c.item-item.is
    (rw c.name.ensures at c.in_ok-put_name.ensures.names)
    (was_new c.in_ok-put_name.field-0 (is_index c.loop-item.before (g.T.HasName.name_of c.item-item.result)) (rw c.name.ensures at c.in_ok-put_name.ensures.added) c.if-not-branch.false) c.loop-item.invariant

pub returns-then-not-branch : goal.returns-then-not-branch
returns-then-not-branch g c = grind (arith, common_steps)
