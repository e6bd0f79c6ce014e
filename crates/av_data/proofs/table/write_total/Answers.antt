use Rattle.std.proofs.Common.{rules}
use Rattle.av_page.proofs.Putting.{Puts-more, Puts-is}
use Rattle.av_data.proofs.table.write_total.Goals as goal

pub returns : goal.returns
returns g c = Puts-is (Puts-more c.put.ensures c.put_number.ensures) (search rules)
