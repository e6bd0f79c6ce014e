use Rattle.av_page.proofs.Putting.{Puts-more}
use Rattle.av_commands.proofs.refusals.put_number.Goals as goal

pub returns : goal.returns
returns g c = Puts-more c.put.ensures c.put_number.ensures
