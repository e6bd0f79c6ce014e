use Rattle.std.proofs.Common.{ℕ, ◌<◌, ◌≤◌, ◌+◌}
use Rattle.std.specs.Prelude.{slice_index_or, []}
use Rattle.av_poly.specs.Points.{Has}
use Rattle.av_depend.specs.inner.Generating.{mirrored}
use Rattle.av_depend.proofs.generator.is_middle.Given as goal

abbrev pub invariant-loop-k : goal.invariant-loop-k
invariant-loop-k l = (j : ℕ) → l.at ≤ j + l.k → j < l.at → Has l.set (mirrored (slice_index_or l.points l.at []) (slice_index_or l.points j [])) → ⊥
