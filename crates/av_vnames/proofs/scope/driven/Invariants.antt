use Rattle.std.proofs.Common.{◌≡◌, ◌++◌, drop, map}
use Rattle.av_vnames.specs.Scoped.{texts}
use Rattle.av_vparse.specs.Said.{said_item}
use Rattle.av_net.specs.Rows.{driven_names}
use Rattle.av_vnames.proofs.scope.driven.Given as goal

abbrev pub invariant-loop-item : goal.invariant-loop-item
invariant-loop-item l = texts l.names.items ++ driven_names l.kinds (map said_item (drop l.item-index l.items)) ≡ driven_names l.kinds (map said_item l.items)
