use Rattle.std.proofs.Common.{◌≡◌, ◌^◌, ◌+◌, ◌-◌, min, take}
use Rattle.av_sched.specs.Parts.{indices_of}
use Rattle.av_sched.proofs.part.candidates_of.Given as goal

abbrev pub invariant-loop-k : goal.invariant-loop-k
invariant-loop-k l = l.number ≡ min (l.base ^ indices_of l.dims (take l.k l.component)) (2 ^ 128 - 1)

abbrev pub invariant-loop-index : goal.invariant-loop-index
invariant-loop-index l = l.number ≡ min (l.fn.base ^ (indices_of l.fn.dims (take l.k l.fn.component) + l._index)) (2 ^ 128 - 1)
