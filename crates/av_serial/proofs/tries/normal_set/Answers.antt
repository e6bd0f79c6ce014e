use Rattle.std.proofs.lemmas.List.Elements.{All-from_recursion}
use Rattle.av_affine.specs.Forms.{IsWithinLimits}
use Rattle.av_normal.proofs.Outcomes.{if_ok}
use Rattle.av_serial.proofs.Small.{normal_within}
use Rattle.av_serial.proofs.tries.normal_set.Goals as goal

pub returns-clause-limits : goal.returns-clause-limits
returns-clause-limits c =
    if_ok c.normalised_copy.result c.normalised_copy.ensures.rows
    (λ to s. All-from_recursion IsWithinLimits to.rows (normal_within c.args.set.now.dim c.args.set.now.rows to.rows s c.requires))
