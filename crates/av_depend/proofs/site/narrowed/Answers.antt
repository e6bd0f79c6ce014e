use Rattle.std.proofs.Common.{◌∙◌, sym, ap, subst, All}
use Rattle.std.specs.Prelude.{filter}
use Rattle.av_flat.specs.Points.{has}
use Rattle.av_depend.specs.AllPoints.{AreAllPoints}
use Rattle.av_depend.specs.SetPoints.{IsPointOf}
use Rattle.av_depend.proofs.Adds.{small_made, all_made}
use Rattle.av_depend.proofs.site.narrowed.Goals as goal

pub generators-requires-clause-points : goal.generators-requires-clause-points
generators-requires-clause-points c =
    let p = c.in_ok-points.ensures ∙ ap (filter (has c.args.set.now)) c.as_slice.ensures in
    subst (All (IsPointOf c.in_ok-set.set)) (sym c.as_slice-2.ensures)
    (small_made c.args.reading.now.set c.args.set.now c.in_ok-set.set c.args.reading.now.points c.in_ok-points.points c.in_ok-set.ensures.dim c.in_ok-set.ensures.rows p c.requires.reading.small)

pub generators-requires-clause-all : goal.generators-requires-clause-all
generators-requires-clause-all c =
    let p = c.in_ok-points.ensures ∙ ap (filter (has c.args.set.now)) c.as_slice.ensures in
    subst (AreAllPoints c.in_ok-set.set) (sym c.as_slice-2.ensures)
    (all_made c.args.reading.now.set c.args.set.now c.in_ok-set.set c.args.reading.now.points c.in_ok-points.points c.in_ok-set.ensures.dim c.in_ok-set.ensures.rows p c.requires.dim c.requires.reading.points)

pub returns-clause-reading : goal.returns-clause-reading
returns-clause-reading c =
    let p = c.in_ok-points.ensures ∙ ap (filter (has c.args.set.now)) c.as_slice.ensures in
    record {
      small = small_made c.args.reading.now.set c.args.set.now c.in_ok-set.set c.args.reading.now.points c.in_ok-points.points c.in_ok-set.ensures.dim c.in_ok-set.ensures.rows p c.requires.reading.small;
      points = all_made c.args.reading.now.set c.args.set.now c.in_ok-set.set c.args.reading.now.points c.in_ok-points.points c.in_ok-set.ensures.dim c.in_ok-set.ensures.rows p c.requires.dim c.requires.reading.points;
      generators = c.in_ok-generators.ensures;
    }
