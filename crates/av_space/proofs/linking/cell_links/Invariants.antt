use Rattle.std.proofs.Common.{ℕ, drop}
use Rattle.av_flat.specs.Trees.{view_system}
use Rattle.av_space.specs.Taps.{IsTapped}
use Rattle.av_space.specs.inner.Readings.{taps_of_reader}
use Rattle.av_space.specs.inner.Runs.{AreRunsFrom}
use Rattle.av_space.specs.inner.Stretches.{HasLinks, IsBetween}
use Rattle.av_space.proofs.linking.cell_links.Given as goal

abbrev pub invariant-loop-run : goal.invariant-loop-run
invariant-loop-run l = (end : ℕ)
    × HasLinks (IsTapped (view_system l.scheduled.timed.flat) l.scheduled.timed.helpers l.scheduled.layout.placements l.scheduled.layout.cells) (IsBetween l.consumer.number.0 0 end) l.fn.links l.links
    × AreRunsFrom (taps_of_reader l.scheduled l.consumer) end (drop l.run-index l.runs)
