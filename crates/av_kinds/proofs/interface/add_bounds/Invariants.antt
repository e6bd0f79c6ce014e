use Rattle.std.proofs.Common.{◌≡◌, ◌++◌}
use Rattle.av_kinds.specs.inner.Interfaces.{window_ports}
use Rattle.av_kinds.proofs.interface.add_bounds.Given as goal

abbrev pub invariant-loop-k : goal.invariant-loop-k
invariant-loop-k l = l.ports ≡ l.initial.ports ++ window_ports l.bound l.k
