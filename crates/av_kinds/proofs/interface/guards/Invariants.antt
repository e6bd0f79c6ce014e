use Rattle.std.proofs.Common.{◌≡◌}
use Rattle.av_kinds.specs.inner.Interfaces.{guards_by}
use Rattle.av_kinds.proofs.interface.guards.Given as goal

abbrev pub invariant-loop-k : goal.invariant-loop-k
invariant-loop-k l = l.guards ≡ guards_by l.bound l.k
