use Rattle.std.proofs.Common.{◌≤◌, ◌-◌, length, map}
use Rattle.av_space.specs.inner.Sites.{tap_of}
use Rattle.av_space.proofs.SiteRuns.{AreRunsTo}
use Rattle.av_space.proofs.runs.runs_of.Given as goal

abbrev pub invariant-loop-first : goal.invariant-loop-first
invariant-loop-first l = AreRunsTo (map tap_of l.sites) l.first l.runs × (l.first ≤ length l.sites)

abbrev pub decreases-loop-first : goal.decreases-loop-first
decreases-loop-first l = length l.sites - l.first
