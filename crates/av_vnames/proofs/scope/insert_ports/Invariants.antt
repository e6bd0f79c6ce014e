use Rattle.std.proofs.Common.{◌≡◌, ◌++◌, drop}
use Rattle.av_vnames.specs.Scoped.{Bytes}
use Rattle.av_vnames.specs.inner.Scoped.{width_found}
use Rattle.av_vnames.proofs.scope.insert_ports.Given as goal

abbrev pub invariant-loop-port : goal.invariant-loop-port
invariant-loop-port l = (q : Bytes) → width_found (l.widths ++ drop l.port-index l.ports) q ≡ width_found (l.fn.widths ++ l.ports) q
