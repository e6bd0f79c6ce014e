use Rattle.std.proofs.Common.{drop, arith}
use Rattle.std.proofs.lemmas.Grind.{common_steps}
use Rattle.av_names.specs.Forms.{rows_over}
use Rattle.av_names.specs.inner.Sums.{sizes_in}
use Rattle.av_names.proofs.Summed.{front_small}
use Rattle.av_names.proofs.affine.set.Goals as goal

pub invariant_of-result : goal.invariant_of-result
invariant_of-result c =
    front_small (sizes_in c.args.sizes.now) c.args.names.now c.args.constraints.now c.loop-constraint.rows
    (rows_over (sizes_in c.args.sizes.now) c.args.names.now (drop c.loop-constraint.constraint-index c.args.constraints.now)) c.loop-constraint.invariant c.requires.fits

pub loop-constraint-preserved : goal.loop-constraint-preserved
loop-constraint-preserved c = grind (arith, common_steps)
