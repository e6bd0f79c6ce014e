use Rattle.av_clock.specs.Gates.{AreStepped}
use Rattle.av_clock.proofs.resolver.Resolver.flip_flops.Given as goal

abbrev pub invariant-loop-step : goal.invariant-loop-step
invariant-loop-step l = AreStepped l.self l.step-index l.flip_flops.items
