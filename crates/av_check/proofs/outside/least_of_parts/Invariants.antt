use Rattle.std.proofs.Common.{take}
use Rattle.av_check.specs.inner.Least.{IsLeast}
use Rattle.av_check.specs.inner.Coverage.{IsInAny}
use Rattle.av_check.proofs.outside.least_of_parts.Given as goal

abbrev pub invariant-loop-part : goal.invariant-loop-part
invariant-loop-part l = IsLeast (IsInAny (take l.part-index l.parts)) l.least
