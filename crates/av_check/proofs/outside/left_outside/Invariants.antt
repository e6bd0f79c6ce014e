use Rattle.std.proofs.Common.{◌↔◌, take, ℤ, List, All}
use Rattle.av_poly.specs.Points.{Has}
use Rattle.av_elim.specs.Extents.{IsInside}
use Rattle.av_check.specs.inner.Coverage.{IsInAny}
use Rattle.av_check.proofs.outside.left_outside.Given as goal

abbrev pub invariant-loop-part : goal.invariant-loop-part
invariant-loop-part l = record {
  inside : All (IsInside l.dim l.extent) l.left;
  points : (z : List ℤ) → IsInAny l.left z ↔ (IsInAny (take l.part-index l.parts) z × (Has l.set z → ⊥));
}
