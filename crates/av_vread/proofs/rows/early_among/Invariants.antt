use Rattle.std.proofs.Common.{◌≡◌, drop, map}
use Rattle.av_vparse.specs.Said.{said_item}
use Rattle.av_net.specs.Rows.{is_in, first_early}
use Rattle.av_vread.proofs.rows.early_among.Given as goal

abbrev pub invariant-loop-item : goal.invariant-loop-item
invariant-loop-item l = first_early l.kinds (is_in l.wires) l.earlier (map said_item (drop l.item-index l.items)) ≡ first_early l.kinds (is_in l.wires) l.fn.earlier (map said_item l.items)
