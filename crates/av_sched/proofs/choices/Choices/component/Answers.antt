use Rattle.std.proofs.Common.{ap}
use Rattle.av_sched.specs.inner.Walks.{Choices}
use Rattle.av_sched.proofs.choices.Choices.component.Goals as goal

pub returns : goal.returns
returns c = ap (λ (d : Choices). d.component) c.self.view_is
