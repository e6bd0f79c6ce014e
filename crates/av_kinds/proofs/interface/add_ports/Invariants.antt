use Rattle.std.proofs.Common.{◌≡◌, ◌++◌}
use Rattle.av_kinds.specs.Names.{numbered}
use Rattle.av_kinds.specs.inner.Interfaces.{ports_by}
use Rattle.av_kinds.proofs.interface.add_ports.Given as goal

abbrev pub invariant-loop-k : goal.invariant-loop-k
invariant-loop-k l = l.ports ≡ l.initial.ports ++ ports_by (numbered l.letter) l.width l.first l.k
