use Rattle.std.proofs.Common.{◌≡◌, drop}
use Rattle.av_space.specs.Taps.{helper_from}
use Rattle.av_space.proofs.tapping.helper_at.Given as goal

abbrev pub invariant-loop-number : goal.invariant-loop-number
invariant-loop-number l = helper_from l.number (drop l.number l.helpers) l.at.place.0 l.at.piece l.at.site.0 ≡ helper_from 0 l.helpers l.at.place.0 l.at.piece l.at.site.0
