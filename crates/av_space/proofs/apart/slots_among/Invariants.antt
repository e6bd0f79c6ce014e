use Rattle.std.proofs.Common.{◌≡◌, take}
use Rattle.std.specs.Prelude.{filter}
use Rattle.av_flat.specs.Points.{has}
use Rattle.av_space.proofs.apart.slots_among.Given as goal

abbrev pub invariant-loop-slot : goal.invariant-loop-slot
invariant-loop-slot l = l.own ≡ filter (λ t. has l.set t.point) (take l.slot-index l.slots)
