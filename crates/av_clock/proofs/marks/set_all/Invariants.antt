use Rattle.av_clock.proofs.Marking.{SetsFirst}
use Rattle.av_clock.proofs.marks.set_all.Given as goal

abbrev pub invariant-loop-index : goal.invariant-loop-index
invariant-loop-index l = SetsFirst l.list l.fn.marks l.marks l.index-index
