use Rattle.std.proofs.Common.{◌≡◌, ℕ, ◌≤◌, ◌<◌, Some, map}
use Rattle.std.specs.Prelude.{slice_get}
use Rattle.av_space.specs.Taps.{Tap}
use Rattle.av_space.specs.inner.Sites.{tap_of}
use Rattle.av_space.proofs.runs.run_end.Given as goal

abbrev pub invariant-loop-number : goal.invariant-loop-number
invariant-loop-number l = (j : ℕ) (t u : Tap) → l.first ≤ j → j < l.number → slice_get (map tap_of l.sites) l.first ≡ Some t → slice_get (map tap_of l.sites) j ≡ Some u → u.place.piece ≡ t.place.piece
