use Rattle.std.proofs.Common.{◌≡◌, take}
use Rattle.av_net.specs.Names.{names_of}
use Rattle.av_data.proofs.input_ports.InputPorts.new.Given as goal

abbrev pub invariant-loop-port : goal.invariant-loop-port
invariant-loop-port l = l.names ≡ take l.port-index (names_of l.ports)
