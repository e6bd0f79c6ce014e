use Rattle.std.proofs.Common.{◌≡◌, ◌++◌, drop}
use Rattle.av_vnames.specs.Scoped.{texts}
use Rattle.av_net.specs.Names.{names_of}
use Rattle.av_vnames.proofs.scope.push_ports.Given as goal

abbrev pub invariant-loop-port : goal.invariant-loop-port
invariant-loop-port l = texts l.names.items ++ names_of (drop l.port-index l.ports) ≡ texts l.fn.names.items ++ names_of l.ports
