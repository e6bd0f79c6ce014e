use Rattle.std.proofs.Common.{length, ℤ, pos, List, ◌≤ℤ◌, ◌∷◌, get_or}
use Rattle.av_poly.specs.Search.{CanFollow}
use Rattle.av_poly.proofs.search.+first_from.Given as goal

abbrev pub decreases-first_from : goal.decreases-first_from
decreases-first_from l = length l.low.now

-- what has been passed cannot follow
abbrev pub invariant-loop-value : goal.invariant-loop-value
invariant-loop-value l = record {
  above : get_or l.low 0 (pos 0) ≤ℤ l.value;
  passed : (x : ℤ) (rest : List ℤ) → CanFollow l.rows l.fixed l.low l.high (x ∷ rest) → l.value ≤ℤ x;
}
