use Rattle.std.proofs.Common.{◌<◌, ◌∙◌, length, arith}
use Rattle.std.proofs.lemmas.Grind.{common_steps}
use Rattle.av_poly.proofs.Parting.{kept_more, small_more, parts_more}
use Rattle.av_poly.proofs.parts.parts.Goals as goal

pub loop-row-preserved : goal.loop-row-preserved
loop-row-preserved c =
    let rows = c.args.rows.now in
    let i = c.loop-row.row-index in
    let kept = c.loop-row.kept in
    let l : i < length rows = omega arith in
    let e = c.in_ok-push-2.ensures.ok in
    record {
      kept = kept_more _ kept c.args.within.now rows i _ l e c.loop-row.invariant.kept;
      small = small_more _ kept rows i _ l e c.loop-row.invariant.small c.requires.rows;
      parts = parts_more c.args.dim c.args.within.now rows c.as_slice.result.now i _ c.loop-row.parts _ c.in_ok-part.field-0 l (c.as_slice.ensures ∙ c.loop-row.invariant.kept) c.loop-row.invariant.parts
          c.in_ok-part.ensures.dim c.in_ok-part.ensures.points c.in_ok-push.ensures.ok;
    }

pub returns : goal.returns
returns c = grind (arith, common_steps)

pub loop-row-init : goal.loop-row-init
loop-row-init c = grind (arith, common_steps)
