use Rattle.std.proofs.Common.{◌≡◌, ◌++◌, drop}
use Rattle.av_wave.proofs.feed.push_ports.Given as goal

abbrev pub invariant-loop-port : goal.invariant-loop-port
invariant-loop-port l = l.list ++ drop l.port-index l.ports ≡ l.fn.list ++ l.ports
