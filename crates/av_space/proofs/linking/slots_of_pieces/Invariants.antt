use Rattle.av_flat.specs.Trees.{view_variable}
use Rattle.av_space.specs.inner.Readings.{AreOwnTo}
use Rattle.av_space.proofs.linking.slots_of_pieces.Given as goal

abbrev pub invariant-loop-piece : goal.invariant-loop-piece
invariant-loop-piece l = AreOwnTo (view_variable l.consumer.var.now) l.consumer.slots.now l.piece-index l.own
