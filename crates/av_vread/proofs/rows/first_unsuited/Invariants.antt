use Rattle.std.proofs.Common.{◌≡◌, drop, map}
use Rattle.av_vparse.specs.Said.{said_item}
use Rattle.av_net.specs.Rows.{suits}
use Rattle.av_net.specs.Names.{width_in}
use Rattle.std.specs.Prelude.{find, not}
use Rattle.av_vread.proofs.rows.first_unsuited.Given as goal

abbrev pub invariant-loop-item : goal.invariant-loop-item
invariant-loop-item l = find (λ item. not (suits l.kinds (width_in l.widths) item)) (map said_item (drop l.item-index l.items)) ≡ find (λ item. not (suits l.kinds (width_in l.widths) item)) (map said_item l.items)
