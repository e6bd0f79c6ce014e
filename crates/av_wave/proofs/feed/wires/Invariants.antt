use Rattle.av_wave.specs.Clocking.{AreWires}
use Rattle.av_wave.proofs.feed.wires.Given as goal

abbrev pub invariant-loop-port : goal.invariant-loop-port
invariant-loop-port l = AreWires l.of l.port-index l.wires
