use Rattle.std.proofs.Common.{rules}
use Rattle.av_page.proofs.Putting.{Puts-more, Puts-is}
use Rattle.av_data.proofs.table.write_cell.Goals as goal

pub returns : goal.returns
returns g c = Puts-is (Puts-more (Puts-more (Puts-more (Puts-more (Puts-more (Puts-more c.put.ensures c.put_number.ensures) c.put-2.ensures) c.put-3.ensures) c.put-4.ensures) c.write_point.ensures) c.put-5.ensures) (search rules)
