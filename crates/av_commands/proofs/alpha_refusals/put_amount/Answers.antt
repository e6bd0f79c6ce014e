use Rattle.av_page.proofs.Putting.{Puts-more}
use Rattle.av_commands.proofs.alpha_refusals.put_amount.Goals as goal

pub returns : goal.returns
returns g c = Puts-more c.put.ensures c.put_number.ensures
