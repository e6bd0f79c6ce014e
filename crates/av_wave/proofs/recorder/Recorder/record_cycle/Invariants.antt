use Rattle.std.proofs.Common.{◌≤◌, length}
use Rattle.av_wave.specs.inner.Parts.{AreTold}
use Rattle.av_wave.proofs.recorder.Recorder.record_cycle.Given as goal

abbrev pub invariant-loop-port : goal.invariant-loop-port
invariant-loop-port l = AreTold l.fn.self l.port l.words l.self × (l.port ≤ length l.words)
