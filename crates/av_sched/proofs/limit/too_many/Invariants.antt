use Rattle.std.proofs.Common.{◌≤◌, take, All}
use Rattle.av_flat.specs.Trees.{view_system}
use Rattle.av_sched.specs.Choices.{candidates}
use Rattle.av_sched.proofs.limit.too_many.Given as goal

abbrev pub invariant-loop-k : goal.invariant-loop-k
invariant-loop-k l = All (λ d. candidates (view_system l.fn.flat) l.fn.reach.size d ≤ 4194304) (take l.k l.fn.components)
