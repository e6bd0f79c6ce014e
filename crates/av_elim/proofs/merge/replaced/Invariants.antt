use Rattle.std.proofs.Common.{◌≡◌}
use Rattle.av_elim.proofs.merge.replaced.Given as goal

abbrev pub invariant-loop-place : goal.invariant-loop-place
invariant-loop-place l = l.rows ≡ l.fn.rows
