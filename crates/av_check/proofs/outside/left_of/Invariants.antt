use Rattle.std.proofs.Common.{◌≡◌, ◌↔◌, take, ℤ, List, All}
use Rattle.av_poly.specs.Points.{Has}
use Rattle.av_elim.specs.Extents.{IsInside}
use Rattle.av_check.specs.inner.Coverage.{coverage, IsInAny}
use Rattle.av_check.proofs.outside.left_of.Given as goal

abbrev pub invariant-loop-set : goal.invariant-loop-set
invariant-loop-set l = record {
  inside : All (IsInside l.domain.dim l.extent) l.left;
  points : (z : List ℤ) → IsInAny l.left z ↔ (Has l.domain z × (coverage z (take l.set-index l.sets) ≡ 0));
}
