use Rattle.std.proofs.Common.{◌≡◌, drop}
use Rattle.av_names.specs.inner.FirstAgain.{first_again}
use Rattle.av_names.proofs.name_sets.first_again.Given as goal

abbrev pub invariant-loop-item : goal.invariant-loop-item
invariant-loop-item g l = first_again g.T.HasName.name_of l.fn.before l.items ≡ first_again g.T.HasName.name_of l.before (drop l.item-index l.items)
