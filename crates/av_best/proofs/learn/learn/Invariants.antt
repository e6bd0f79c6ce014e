use Rattle.std.proofs.Common.{All}
use Rattle.av_sched.specs.Witnesses.{IsWitness}
use Rattle.av_best.proofs.learn.learn.Given as goal

abbrev pub invariant-loop-k : goal.invariant-loop-k
invariant-loop-k l = All (IsWitness l.edges l.nodes) l.pool.items
