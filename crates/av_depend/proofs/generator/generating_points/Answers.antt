use Rattle.std.proofs.Common.{subst, sym, All}
use Rattle.av_depend.specs.SetPoints.{IsPointOf}
use Rattle.av_depend.proofs.Adds.{small_points}
use Rattle.av_depend.proofs.generator.generating_points.Goals as goal

pub generators-requires-clause-points : goal.generators-requires-clause-points
generators-requires-clause-points c =
    subst (All (IsPointOf c.args.set.now)) (sym c.as_slice.ensures) (small_points c.args.set.now c.args.extent.now c.in_ok-points.points c.requires.few c.requires.low c.requires.high c.requires.inside c.in_ok-points.ensures)
