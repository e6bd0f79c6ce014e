use Rattle.av_wave.proofs.Dumping.{IsDumping}
use Rattle.av_wave.proofs.run.put_run.Given as goal

abbrev pub invariant-loop-cycle : goal.invariant-loop-cycle
invariant-loop-cycle g l =
    let S = g.K.Sink.state in
    IsDumping l.of l.stimulus l.cycle l.parts l.next (S l.fn.sink) (S l.sink) l.fn.page l.page
