use Rattle.std.proofs.Common.{◌≡◌, ◌++◌, drop, map}
use Rattle.std.specs.List.{flat_map}
use Rattle.av_vnames.specs.Scoped.{texts}
use Rattle.av_vparse.specs.Said.{said_link}
use Rattle.av_net.specs.Rows.{driven_by_link}
use Rattle.av_vnames.proofs.scope.push_linked.Given as goal

abbrev pub invariant-loop-link : goal.invariant-loop-link
invariant-loop-link l =
    texts l.names.items ++ flat_map (driven_by_link l.kind) (map said_link (drop l.link-index l.links)) ≡ texts l.fn.names.items ++ flat_map (driven_by_link l.kind) (map said_link l.links)
