use Rattle.std.proofs.Common.{◌≡◌, ◌++◌, take}
use Rattle.av_sched.specs.inner.Ways.{ways_of}
use Rattle.av_sched.proofs.cost.add_ways.Given as goal

abbrev pub invariant-loop-reference : goal.invariant-loop-reference
invariant-loop-reference l = l.to ≡ l.initial.to ++ ways_of (take l.reference-index l.reference-items)
