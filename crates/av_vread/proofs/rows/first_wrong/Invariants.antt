use Rattle.std.proofs.Common.{◌≡◌, drop, map}
use Rattle.av_vparse.specs.Said.{said_item}
use Rattle.av_net.specs.Rows.{is_in, first_some, wrong_in}
use Rattle.av_vread.proofs.rows.first_wrong.Given as goal

abbrev pub invariant-loop-item : goal.invariant-loop-item
invariant-loop-item l = first_some (wrong_in l.kinds (is_in l.places.wires) (is_in l.places.registers) (is_in l.places.all)) (map said_item (drop l.item-index l.items)) ≡ first_some (wrong_in l.kinds (is_in l.places.wires) (is_in l.places.registers) (is_in l.places.all)) (map said_item l.items)
