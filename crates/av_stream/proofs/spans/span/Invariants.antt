use Rattle.std.proofs.Common.{ℕ, ◌<◌, ◌-◌}
use Rattle.av_flat.specs.Trees.{view_variable}
use Rattle.av_stream.specs.inner.Standing.{placing_by, Stands}
use Rattle.av_stream.proofs.spans.span.Given as goal

abbrev pub invariant-from_start : goal.invariant-from_start
invariant-from_start l = (c : ℕ) → c < l.first → Stands (view_variable l.var) (placing_by l.time l.matrix) l.cell.at c → ⊥

abbrev pub decreases-from_start : goal.decreases-from_start
decreases-from_start l = l.cycles - l.first

abbrev pub invariant-from_end : goal.invariant-from_end
invariant-from_end l = record {
  none : (c : ℕ) → l.last < c → Stands (view_variable l.var) (placing_by l.time l.matrix) l.cell.at c → ⊥;
  timely : l.last < 4096;
}

abbrev pub decreases-from_end : goal.decreases-from_end
decreases-from_end l = l.last
