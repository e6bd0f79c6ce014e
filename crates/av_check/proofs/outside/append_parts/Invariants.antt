use Rattle.std.proofs.Common.{◌↔◌, ◌⊎◌, take, ℤ, List, All}
use Rattle.av_elim.specs.Extents.{IsInside}
use Rattle.av_check.specs.inner.Coverage.{IsInAny}
use Rattle.av_check.proofs.outside.append_parts.Given as goal

abbrev pub invariant-loop-part : goal.invariant-loop-part
invariant-loop-part l = record {
  inside : All (IsInside l.dim l.extent) l.to;
  points : (z : List ℤ) → IsInAny l.to z ↔ (IsInAny l.fn.to z ⊎ IsInAny (take l.part-index l.parts) z);
}
