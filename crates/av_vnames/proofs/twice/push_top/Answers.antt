use Rattle.std.proofs.Common.{◌++◌, map, sym, ap, ◌∙◌, arith}
use Rattle.std.proofs.lemmas.List.{append-nil}
use Rattle.std.proofs.lemmas.Grind.{common_steps}
use Rattle.av_base.proofs.Lists.{nothing_left}
use Rattle.av_vparse.specs.Said.{said_item}
use Rattle.av_vnames.specs.Scoped.{texts}
use Rattle.av_vnames.specs.inner.Scoped.{instances_named}
use Rattle.av_vnames.proofs.twice.push_top.Goals as goal

pub returns : goal.returns
returns c =
    sym (append-nil (texts c.loop-item.names.items))
    ∙ ap (λ z. texts c.loop-item.names.items ++ instances_named (map said_item z)) (sym (nothing_left c.args.items.now c.loop-item.item-index c.loop-item-test.false)) ∙ c.loop-item.invariant

pub loop-item-preserved : goal.loop-item-preserved
loop-item-preserved c = grind (arith, common_steps)

pub loop-item-init : goal.loop-item-init
loop-item-init c = grind (arith, common_steps)
