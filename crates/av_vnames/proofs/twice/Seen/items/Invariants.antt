use Rattle.std.proofs.Common.{drop, map}
use Rattle.std.specs.List.{flat_map}
use Rattle.av_net.specs.Rows.{item_mentions}
use Rattle.av_vparse.specs.Said.{said_item}
use Rattle.av_vnames.specs.inner.Seen.{Stands}
use Rattle.av_vnames.proofs.SeenMentions.{GoesOn}
use Rattle.av_vnames.proofs.twice.Seen.items.Given as goal

abbrev pub invariant-loop-item : goal.invariant-loop-item
invariant-loop-item l = GoesOn Stands l.fn.self l.self (flat_map (item_mentions l.kinds) (map said_item (drop l.item-index l.items))) (flat_map (item_mentions l.kinds) (map said_item l.items))
