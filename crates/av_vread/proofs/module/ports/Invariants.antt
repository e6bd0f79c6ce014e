use Rattle.std.proofs.Common.{◌≡◌, ◌++◌, drop}
use Rattle.av_vread.proofs.module.ports.Given as goal

abbrev pub invariant-loop-port : goal.invariant-loop-port
invariant-loop-port l = l.copy ++ drop l.port-index l.of ≡ l.of
