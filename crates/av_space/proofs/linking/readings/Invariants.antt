use Rattle.std.proofs.Common.{take}
use Rattle.av_flat.specs.Trees.{view_piece, view_system}
use Rattle.av_space.specs.inner.Sites.{tap_of}
use Rattle.av_space.specs.inner.Readings.{IsReadingOf, AreReadings}
use Rattle.av_space.proofs.linking.readings.Given as goal

abbrev pub invariant-loop-slot : goal.invariant-loop-slot
invariant-loop-slot l =
    AreReadings (IsReadingOf (view_system l.scheduled.timed.flat) l.scheduled.layout.placements l.scheduled.layout.cells l.node.0 (tap_of l.site) (view_piece l.piece) (take l.slot-index l.slots)) l.readings
