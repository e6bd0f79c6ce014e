use Rattle.std.proofs.Common.{◌≡◌, ◌++◌, map, drop}
use Rattle.av_flat.specs.Trees.{view_system}
use Rattle.av_flat.specs.Sites.{place_of}
use Rattle.av_space.specs.inner.Sites.{tap_of, taps_where}
use Rattle.av_space.proofs.tapping.add_taps_of.Given as goal

abbrev pub invariant-loop-place : goal.invariant-loop-place
invariant-loop-place l =
    map tap_of l.sites ++ taps_where (view_system l.timed.flat) l.timed.helpers l.own.0 l.picks (map place_of (drop l.place-index l.places))
    ≡ map tap_of l.fn.sites ++ taps_where (view_system l.timed.flat) l.timed.helpers l.own.0 l.picks (map place_of l.places)
