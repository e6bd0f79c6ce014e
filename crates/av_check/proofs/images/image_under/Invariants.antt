use Rattle.std.proofs.Common.{drop}
use Rattle.av_check.specs.inner.Reachable.{IsOnTheWay}
use Rattle.av_check.proofs.images.image_under.Given as goal

abbrev pub invariant-loop-outer : goal.invariant-loop-outer
invariant-loop-outer l = IsOnTheWay l.own l.under l.z l.whole (drop l.outer-index l.under)
