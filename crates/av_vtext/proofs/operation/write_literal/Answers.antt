use Rattle.av_page.proofs.Putting.{Puts-more}
use Rattle.av_vtext.proofs.operation.write_literal.Goals as goal

pub returns : goal.returns
returns g c = Puts-more (Puts-more c.put_number.ensures c.put.ensures) c.put_number-2.ensures
