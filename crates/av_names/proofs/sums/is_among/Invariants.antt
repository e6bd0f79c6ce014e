use Rattle.std.proofs.Common.{◌≡◌, drop}
use Rattle.av_tree.specs.Rows.{is_index}
use Rattle.av_names.proofs.sums.is_among.Given as goal

abbrev pub invariant-loop-index : goal.invariant-loop-index
invariant-loop-index l = is_index (drop l.index-index l.names) l.name ≡ is_index l.names l.name
