use Rattle.std.proofs.Common.{◌≡◌, take, ◌^◌}
use Rattle.av_affine.specs.Numbers.{AtMost}
use Rattle.av_depend.specs.inner.Generating.{mirrored}
use Rattle.av_depend.proofs.generator.mirror.Given as goal

abbrev pub invariant-loop-k : goal.invariant-loop-k
invariant-loop-k l = (l.entries.items ≡ take l.k (mirrored l.a l.b)) × AtMost (2 ^ 25) l.entries.items
