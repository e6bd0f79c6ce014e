use Rattle.std.proofs.Common.{◌≡◌, drop, map}
use Rattle.av_vparse.specs.Said.{said_item}
use Rattle.av_net.specs.Rows.{first_some, unlinked_in}
use Rattle.av_vread.proofs.rows.first_unlinked.Given as goal

abbrev pub invariant-loop-item : goal.invariant-loop-item
invariant-loop-item l = first_some (unlinked_in l.kinds) (map said_item (drop l.item-index l.items)) ≡ first_some (unlinked_in l.kinds) (map said_item l.items)
