use Rattle.std.proofs.Common.{◌≡◌, ◌++◌, drop, map}
use Rattle.av_net.specs.Rows.{drives_of}
use Rattle.av_vparse.specs.Said.{said_item}
use Rattle.av_vread.proofs.module.kind_drives.Given as goal

abbrev pub invariant-loop-item : goal.invariant-loop-item
invariant-loop-item l = l.drives ++ drives_of (map said_item (drop l.item-index l.items)) ≡ drives_of (map said_item l.items)
