use Rattle.std.proofs.Common.{drop}
use Rattle.av_build.proofs.SiteSteps.{IsSiteSoFar}
use Rattle.av_build.proofs.moments.site.Given as goal

abbrev pub invariant-loop-moment : goal.invariant-loop-moment
invariant-loop-moment l = IsSiteSoFar l.inlet l.width l.moments l.selections l.last (drop l.moment-index l.rest)
