use Rattle.std.proofs.Common.{take}
use Rattle.av_kinds.specs.inner.Modules.{IsKindCount}
use Rattle.av_kinds.proofs.planning.kind_count.Given as goal

abbrev pub invariant-loop-kind : goal.invariant-loop-kind
invariant-loop-kind l = IsKindCount (take l.kind-index l.program.kinds) l.count
