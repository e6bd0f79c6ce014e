use Rattle.std.proofs.Common.{◌≡◌, ◌++◌, drop}
use Rattle.av_kinds.specs.inner.Shaped.{site_shapes}
use Rattle.av_kinds.proofs.shape.site_shapes.Given as goal

abbrev pub invariant-loop-k : goal.invariant-loop-k
invariant-loop-k l = l.shapes ++ site_shapes (drop l.k l.before) (drop l.k l.sites) ≡ site_shapes l.before l.sites
