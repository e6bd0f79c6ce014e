use Rattle.std.proofs.Common.{drop}
use Rattle.av_normal.specs.inner.UnderMaps.{IsUnder}
use Rattle.av_normal.proofs.compose.outwards.Given as goal

abbrev pub invariant-loop-outer : goal.invariant-loop-outer
invariant-loop-outer l = IsUnder l.own l.under l.whole (drop l.outer-index l.under)
