use Rattle.std.proofs.Common.{ap, ◌∙◌}
use Rattle.av_wave.specs.inner.Parts.{Part}
use Rattle.av_wave.specs.inner.Recorders.{part_of}
use Rattle.av_wave.proofs.PartSteps.{part_wave}
use Rattle.av_wave.proofs.recorder.Recorder.wave.Goals as goal

pub invariant_of-result : goal.invariant_of-result
invariant_of-result c = part_wave (part_of c.self.inside) c.self.invariant.part (ap (λ (p : Part). p.told) c.self.view_is ∙ c.requires)
