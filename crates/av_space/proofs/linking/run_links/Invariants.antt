use Rattle.std.proofs.Common.{◌≡◌, ℕ, ◌+◌, ◌≤◌}
use Rattle.std.specs.Prelude.{IfSome}
use Rattle.av_flat.specs.Trees.{view_system}
use Rattle.av_space.specs.Taps.{IsTapped}
use Rattle.av_space.specs.inner.Readings.{AreReadAt}
use Rattle.av_space.specs.inner.Stretches.{HasLinks, IsBetween}
use Rattle.av_space.proofs.linking.run_links.Given as goal

abbrev pub invariant-loop-number : goal.invariant-loop-number
invariant-loop-number l =
    HasLinks (IsTapped (view_system l.scheduled.timed.flat) l.scheduled.timed.helpers l.scheduled.layout.placements l.scheduled.layout.cells) (IsBetween l.consumer.number.0 l.fn.run.first l.number) l.fn.links l.links
    × IfSome l.last (λ readings. (j : ℕ) → j + 1 ≡ l.number → AreReadAt l.scheduled l.consumer j readings)
    × (l.fn.run.first ≤ l.number) × (l.number ≤ l.fn.run.end)
