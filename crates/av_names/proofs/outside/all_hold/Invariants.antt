use Rattle.std.proofs.Common.{◌≡◌, drop}
use Rattle.av_tree.specs.Domains as domains
use Rattle.av_names.specs.inner.Sums.{sizes_in}
use Rattle.av_names.proofs.outside.all_hold.Given as goal

abbrev pub invariant-loop-constraint : goal.invariant-loop-constraint
invariant-loop-constraint l = domains.all_hold (sizes_in l.sizes) (drop l.constraint-index l.constraints) ≡ domains.all_hold (sizes_in l.sizes) l.constraints
