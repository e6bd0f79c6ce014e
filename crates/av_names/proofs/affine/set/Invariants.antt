use Rattle.std.proofs.Common.{◌≡◌, ◌++◌, drop}
use Rattle.av_names.specs.Forms.{rows_over}
use Rattle.av_names.specs.inner.Sums.{sizes_in}
use Rattle.av_names.proofs.affine.set.Given as goal

abbrev pub invariant-loop-constraint : goal.invariant-loop-constraint
invariant-loop-constraint l = l.rows ++ rows_over (sizes_in l.sizes) l.names (drop l.constraint-index l.constraints) ≡ rows_over (sizes_in l.sizes) l.names l.constraints
