use Rattle.av_space.specs.inner.Runs.{AreNodeRunsTo}
use Rattle.av_space.proofs.runs.node_runs.Given as goal

abbrev pub invariant-loop-own : goal.invariant-loop-own
invariant-loop-own l = AreNodeRunsTo l.sites l.own-index l.runs
