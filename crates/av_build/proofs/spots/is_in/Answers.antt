use Rattle.av_base.proofs.Truths.{same_truth}
use Rattle.av_flat.specs.Points.{has}
use Rattle.av_flat.proofs.Sets.{has_is}
use Rattle.av_build.proofs.spots.is_in.Goals as goal

pub returns : goal.returns
returns c =
    let own = has_is c.args.set.now c.args.point.now in
    same_truth c.contains.result (has c.args.set.now c.args.point.now) (λ h. own.1 (c.contains.ensures.0 h)) (λ h. c.contains.ensures.1 (own.0 h))
