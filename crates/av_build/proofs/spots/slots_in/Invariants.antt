use Rattle.std.proofs.Common.{◌≡◌, take}
use Rattle.std.specs.Prelude.{filter}
use Rattle.av_flat.specs.Points.{has}
use Rattle.av_build.proofs.spots.slots_in.Given as goal

abbrev pub invariant-loop-slot : goal.invariant-loop-slot
invariant-loop-slot l = l.own ≡ filter (λ t. has l.set t.point) (take l.slot-index l.slots)
