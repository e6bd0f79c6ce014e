use Rattle.av_commands.proofs.Running.{IsRunning}
use Rattle.av_commands.proofs.simulation.run.Given as goal

abbrev pub invariant-loop-cycle : goal.invariant-loop-cycle
invariant-loop-cycle g l =
    let S = g.K.Sink.state in
    IsRunning l.fn.parts.clock.of l.stimulus l.cycle l.parts l.next (S l.fn.sink) (S l.sink)
