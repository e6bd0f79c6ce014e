use Rattle.std.proofs.Common.{◌≡◌, ◌≢◌, take}
use Rattle.std.specs.List.{All}
use Rattle.av_poly.proofs.normal.lowered.Given as goal

abbrev pub invariant-loop-k : goal.invariant-loop-k
invariant-loop-k l = record {
  same : l.rows ≡ l.fn.rows;
  none : All (λ other. other.coef ≢ l.row.coef) (take l.k l.fn.rows);
}
