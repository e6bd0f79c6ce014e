use Rattle.std.proofs.Common.{map, take}
use Rattle.av_names.specs.inner.Seen.{SameNames}
use Rattle.av_names.proofs.name_sets.names_of.Given as goal

abbrev pub invariant-loop-item : goal.invariant-loop-item
invariant-loop-item g l = SameNames l.set (take l.item-index (map g.T.HasName.name_of l.items))
