use Rattle.std.proofs.Common.{ap, ◌∙◌}
use Rattle.av_clock.specs.Seen.{Seen}
use Rattle.av_clock.proofs.clock.Clock.work.Goals as goal

pub returns : goal.returns
returns c = c.work.ensures ∙ ap (λ (s : Seen). s.work) c.self.view_is
