use Rattle.std.proofs.Common.{IsTrue}
use Rattle.av_flat.specs.Points.{has}
use Rattle.av_kinds.specs.Counters.{count_in}
use Rattle.av_build.specs.inner.Orders.{AreMarks}
use Rattle.av_build.proofs.windows.marks.Given as goal

abbrev pub invariant-loop-k : goal.invariant-loop-k
invariant-loop-k l = AreMarks (count_in l.counter) l.slots l.order (λ slot. IsTrue (has l.set slot.point)) l.k-index l.marks
