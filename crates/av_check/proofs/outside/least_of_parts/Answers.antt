use Rattle.std.proofs.Common.{◌≤◌, ◌<◌, length, List, subst, rules}
use Rattle.std.proofs.lemmas.List.{take_all}
use Rattle.av_poly.specs.Points.{Set}
use Rattle.av_check.specs.inner.Least.{IsLeast}
use Rattle.av_check.specs.inner.Coverage.{IsInAny}
use Rattle.av_check.proofs.Counting.{least_parts}
use Rattle.av_check.proofs.outside.least_of_parts.Goals as goal

pub loop-part-preserved : goal.loop-part-preserved
loop-part-preserved c =
    let l : c.loop-part.part-index < length c.args.parts.now = search rules in
    least_parts c.args.parts.now c.loop-part.part-index c.part-item.result c.loop-part.least c.least_point.result c.lesser-least.result l c.part-item.is c.loop-part.invariant c.least_point.ensures c.lesser-least.ensures

pub returns : goal.returns
returns c =
    let l : length c.args.parts.now ≤ c.loop-part.part-index = search rules in
    subst (λ (ps : List Set). IsLeast (IsInAny ps) c.loop-part.least) (take_all c.loop-part.part-index c.args.parts.now l) c.loop-part.invariant
