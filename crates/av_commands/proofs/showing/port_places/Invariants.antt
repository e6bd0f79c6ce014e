use Rattle.std.proofs.Common.{◌≡◌, take}
use Rattle.av_net.specs.Names.{names_of}
use Rattle.av_commands.proofs.showing.port_places.Given as goal

abbrev pub invariant-loop-port : goal.invariant-loop-port
invariant-loop-port l = l.places ≡ take l.port-index (names_of l.ports)
