use Rattle.av_page.proofs.Putting.{Puts-more}
use Rattle.av_vtext.proofs.module.write_range.Goals as goal

pub returns : goal.returns
returns g c = Puts-more (Puts-more c.put.ensures c.put_number.ensures) c.put-2.ensures
