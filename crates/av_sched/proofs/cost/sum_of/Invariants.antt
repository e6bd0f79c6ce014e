use Rattle.std.proofs.Common.{◌≡◌, ◌≤◌, ◌*◌, take}
use Rattle.std.specs.Prelude.{sum_by}
use Rattle.std.specs.Int.RustNames.{unsigned_abs}
use Rattle.av_sched.proofs.cost.sum_of.Given as goal

abbrev pub invariant-loop-k : goal.invariant-loop-k
invariant-loop-k l = record {
  so_far : l.total ≡ sum_by unsigned_abs (take l.k l.entries);
  small : l.total ≤ 4 * l.k;
}
