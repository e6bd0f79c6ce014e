use Rattle.av_clock.specs.Gates.{AreAssigned}
use Rattle.av_clock.proofs.resolver.Resolver.assignments.Given as goal

abbrev pub invariant-loop-drive : goal.invariant-loop-drive
invariant-loop-drive l = AreAssigned l.self l.drive-index l.assignments.items
