use Rattle.std.proofs.Common.{◌≡◌, drop}
use Rattle.std.specs.Prelude.{find}
use Rattle.av_tree.specs.Rows.{is_index}
use Rattle.av_names.proofs.name_sets.first_among.Given as goal

abbrev pub invariant-loop-item : goal.invariant-loop-item
invariant-loop-item g l = find (λ x. is_index l.set (g.T.HasName.name_of x)) l.items ≡ find (λ x. is_index l.set (g.T.HasName.name_of x)) (drop l.item-index l.items)
