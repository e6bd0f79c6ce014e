use Rattle.std.proofs.Common.{map}
use Rattle.av_kinds.specs.inner.Added.{as_guarded}
use Rattle.av_kinds.specs.inner.Shapes.{mode_shape_of}
use Rattle.av_kinds.proofs.Writing.{AreModesFrom}
use Rattle.av_kinds.proofs.interface.Interface.add_lane.Given as goal

abbrev pub invariant-loop-k : goal.invariant-loop-k
invariant-loop-k l = AreModesFrom l.initial.self (map mode_shape_of l.lane.modes) l.k l.self (map as_guarded l.modes)
