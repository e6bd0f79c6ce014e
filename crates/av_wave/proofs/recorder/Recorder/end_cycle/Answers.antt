use Rattle.std.proofs.Common.{sym, subst}
use Rattle.av_wave.specs.inner.Parts.{Part, MayEnd}
use Rattle.av_wave.specs.inner.Recorders.{part_of}
use Rattle.av_wave.proofs.PartSteps.{part_next}
use Rattle.av_wave.proofs.Kept.{kept_next}
use Rattle.av_wave.proofs.recorder.Recorder.end_cycle.Goals as goal

pub invariant_of-self : goal.invariant_of-self
invariant_of-self c = kept_next c.self.inside c.self.invariant (subst (λ (p : Part). MayEnd p) (sym c.self.view_is) c.requires)

pub returns-clause-part : goal.returns-clause-part
returns-clause-part c = part_next (part_of c.self.inside) c.self.invariant.part (subst (λ (p : Part). MayEnd p) (sym c.self.view_is) c.requires)
