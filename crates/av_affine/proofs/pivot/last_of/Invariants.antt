use Rattle.std.proofs.Common.{ℕ, ◌≤◌, ◌<◌, length}
use Rattle.std.specs.List.{Contains}
use Rattle.std.specs.Int.RustNames.{unsigned_abs}
use Rattle.av_affine.specs.Completion.{entry}
use Rattle.av_affine.proofs.pivot.last_of.Given as goal

abbrev pub invariant-loop-k : goal.invariant-loop-k
invariant-loop-k l = (j : ℕ) → l.k ≤ j → j < length l.numbers → Contains l.sizes (unsigned_abs (entry l.numbers j)) → ⊥
