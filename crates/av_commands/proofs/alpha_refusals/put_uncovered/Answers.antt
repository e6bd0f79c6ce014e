use Rattle.av_page.proofs.Putting.{Puts-more}
use Rattle.av_commands.proofs.alpha_refusals.put_uncovered.Goals as goal

pub returns : goal.returns
returns g c = Puts-more c.put_named_point.ensures c.put_blame.ensures
