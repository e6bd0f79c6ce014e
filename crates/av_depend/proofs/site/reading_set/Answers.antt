use Rattle.std.proofs.Common.{sym, subst, All}
use Rattle.av_poly.specs.Points.{Set}
use Rattle.av_depend.specs.declared.site.ReadingSet.{ReadingSet}
use Rattle.av_depend.specs.SetPoints.{IsPointOf}
use Rattle.av_depend.specs.inner.Adding.{IsReadingSet}
use Rattle.av_depend.proofs.Adds.{small_points}
use Rattle.av_depend.proofs.site.reading_set.Goals as goal

pub generators-requires-clause-points : goal.generators-requires-clause-points
generators-requires-clause-points c =
    subst (All (IsPointOf c.args.domain.now)) (sym c.as_slice.ensures) (small_points c.args.domain.now c.args.extent.now c.in_ok-points.points c.requires.few c.requires.low c.requires.high c.requires.inside c.in_ok-points.ensures)

pub returns-clause-reading : goal.returns-clause-reading
returns-clause-reading c =
    let small = small_points c.args.domain.now c.args.extent.now c.in_ok-points.points c.requires.few c.requires.low c.requires.high c.requires.inside c.in_ok-points.ensures in
    let made : Set → ReadingSet = λ set. record { node = c.args.node; set = set; points = c.in_ok-points.points; generators = c.in_ok-generators.generators } in
    let own : IsReadingSet (made c.args.domain.now) = record { small = small; points = c.in_ok-points.ensures; generators = c.in_ok-generators.ensures } in
    subst (λ (set : Set). IsReadingSet (made set)) (sym c.in_ok-set.ensures) own
