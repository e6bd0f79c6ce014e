use Rattle.av_wave.specs.inner.Parts.{IsPart}
use Rattle.av_wave.specs.inner.Capturing.{IsCapturing}
use Rattle.av_wave.proofs.recording.record_cycles.Given as goal

abbrev pub invariant-loop-cycle : goal.invariant-loop-cycle
invariant-loop-cycle l = IsPart l.recorder × IsCapturing l.of l.stimulus l.cycle l.clock l.words l.recorder l.next
