use Rattle.std.proofs.Common.{◌∙◌, arith}
use Rattle.std.proofs.lemmas.Grind.{common_steps}
use Rattle.av_tree.specs.Trees.{view_system}
use Rattle.av_names.proofs.Summed.{written_is}
use Rattle.av_names.proofs.written.written_all.Goals as goal

pub returns : goal.returns
returns c =
    c.loop-part.invariant
    ∙ written_is (view_system c.args.system.now) c.args.variables.now c.args.parts.now c.loop-part.part-index c.requires.variables c.requires.parts (omega (arith, c.loop-part-test.false))

pub loop-variable-preserved : goal.loop-variable-preserved
loop-variable-preserved c = grind (arith, common_steps)

pub loop-part-preserved : goal.loop-part-preserved
loop-part-preserved c = grind (arith, common_steps)

pub loop-part-init : goal.loop-part-init
loop-part-init c = grind (arith, common_steps)
