use Rattle.std.proofs.Common.{◌≡◌, ◌^◌, take}
use Rattle.av_affine.specs.Numbers.{AtMost}
use Rattle.av_affine.specs.Maps.{image}
use Rattle.av_affine.proofs.map.Map.apply.Given as goal

abbrev pub invariant-loop-form : goal.invariant-loop-form
invariant-loop-form l = record {
  so_far : l.values.items ≡ image (take l.form-index l.form-items) l.z;
  small : AtMost (2 ^ 25) l.values.items;
}
