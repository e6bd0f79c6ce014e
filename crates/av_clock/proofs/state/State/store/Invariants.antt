use Rattle.av_clock.proofs.Edges.{Stores}
use Rattle.av_clock.proofs.state.State.store.Given as goal

abbrev pub invariant-loop-i : goal.invariant-loop-i
invariant-loop-i l = Stores l.fn.self.circuit l.fn.self.words.items l.words l.fn.self.next.items l.i
