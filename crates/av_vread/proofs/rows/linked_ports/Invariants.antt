use Rattle.std.proofs.Common.{◌≡◌, ◌++◌, drop, map}
use Rattle.av_vnames.specs.Scoped.{texts}
use Rattle.av_vread.proofs.rows.linked_ports.Given as goal

abbrev pub invariant-loop-link : goal.invariant-loop-link
invariant-loop-link l = texts l.names.items ++ map (λ link. link.port) (drop l.link-index l.links) ≡ map (λ link. link.port) l.links
