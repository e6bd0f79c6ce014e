use Rattle.std.proofs.Common.{◌≡◌, ◌++◌, drop, map}
use Rattle.av_net.specs.Rows.{name_to}
use Rattle.av_vparse.specs.Said.{said_link}
use Rattle.av_vread.proofs.module.outputs_of.Given as goal

abbrev pub invariant-loop-port : goal.invariant-loop-port
invariant-loop-port l = l.names ++ map (name_to (map said_link l.links)) (drop l.port-index l.ports) ≡ map (name_to (map said_link l.links)) l.ports
