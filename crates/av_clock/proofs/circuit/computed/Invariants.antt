use Rattle.std.proofs.Common.{◌≡◌, take}
use Rattle.std.specs.Prelude.{filter}
use Rattle.av_clock.specs.Kept.{computes}
use Rattle.av_clock.proofs.circuit.computed.Given as goal

abbrev pub invariant-loop-assignment : goal.invariant-loop-assignment
invariant-loop-assignment l = l.computed.items ≡ filter computes (take l.assignment-index l.assignments)
