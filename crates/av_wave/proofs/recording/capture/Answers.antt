use Rattle.std.proofs.Common.{refl}
use Rattle.av_wave.proofs.Capturing.{captured}
use Rattle.av_wave.proofs.recording.capture.Goals as goal

pub wave-requires : goal.wave-requires
wave-requires c = c.in_ok-run_recorded.ensures.so_far.told

pub returns : goal.returns
returns c =
    let whole = c.in_ok-run_recorded.ensures in
    captured c.args.of.now c.args.stimulus.now c.args.stimulus.now.cycles whole.clock whole.words c.run_recorded.new.recorder whole.next c.wave.result c.requires.sound whole.part whole.so_far refl c.wave.ensures
