use Rattle.std.proofs.Common.{◌≡◌, ◌++◌, drop, map}
use Rattle.av_net.specs.Rows.{flat_drives}
use Rattle.av_vparse.specs.Said.{said_item}
use Rattle.av_vread.proofs.module.drives.Given as goal

abbrev pub invariant-loop-item : goal.invariant-loop-item
invariant-loop-item l = l.drives ++ flat_drives l.cells (map said_item (drop l.item-index l.items)) ≡ flat_drives l.cells (map said_item l.items)
