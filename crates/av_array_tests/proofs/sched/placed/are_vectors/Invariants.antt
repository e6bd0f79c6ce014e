use Rattle.std.proofs.Common.{◌≡◌, ◌<◌, ℕ, length}
use Rattle.std.specs.Prelude.{slice_index_or}
use Rattle.av_affine.specs.Numbers.{AtMost}
use Rattle.av_sched.specs.Offsets.{part}
use Rattle.av_array_tests.proofs.sched.placed.are_vectors.Given as goal

abbrev pub invariant-loop-k : goal.invariant-loop-k
invariant-loop-k l = record {
  sizes : (j : ℕ) → j < l.k → length (part l.linear j) ≡ slice_index_or l.dims j 0;
  entries : (j : ℕ) → j < l.k → AtMost 4 (part l.linear j);
}
