use Rattle.std.proofs.Common.{◌≡◌, List, subst}
use Rattle.av_poly.specs.Points.{Set, Has}
use Rattle.av_check.specs.inner.Least.{IsLeast}
use Rattle.av_check.specs.inner.Coverage.{coverage, IsInAny}
use Rattle.av_check.proofs.Lexicographic.{least_same}
use Rattle.av_check.proofs.outside.least_left.Goals as goal

pub returns : goal.returns
returns c =
    let left = c.in_ok-left.left in
    let own = subst (λ (ps : List Set). IsLeast (IsInAny ps) c.least_of_parts.result) c.as_slice.ensures c.least_of_parts.ensures in
    least_same (IsInAny left) (λ z. Has c.args.domain.now z × (coverage z c.args.sets.now ≡ 0)) c.in_ok-left.ensures.points c.least_of_parts.result own
