use Rattle.av_commands.proofs.Unwaving.{IsUnwaving}
use Rattle.av_commands.proofs.unwaves.write_cycles.Given as goal

abbrev pub invariant-loop-cycle : goal.invariant-loop-cycle
invariant-loop-cycle g l =
    let S = g.K.Sink.state in
    IsUnwaving l.fn.wave l.cycle l.next l.words (S l.fn.sink) (S l.sink)
