use Rattle.std.proofs.Common.{◌∙◌, ap, subst}
use Rattle.av_space.specs.inner.Scheduled.{Scheduled, IsScheduled}
use Rattle.av_space.proofs.scheduled.ScheduledSystem.cells.Goals as goal

pub returns-clause-is : goal.returns-clause-is
returns-clause-is c = c.as_slice.ensures ∙ ap (λ (at : Scheduled). at.layout.cells) c.self.view_is

pub returns-clause-scheduled : goal.returns-clause-scheduled
returns-clause-scheduled c = subst IsScheduled c.self.view_is c.self.invariant
