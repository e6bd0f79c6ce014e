use Rattle.std.proofs.Common.{rules}
use Rattle.av_page.proofs.Putting.{Puts-more, Puts-is}
use Rattle.av_data.proofs.result.write_line.Goals as goal

pub returns : goal.returns
returns g c =
    Puts-is (Puts-more (Puts-more (Puts-more (Puts-more (Puts-more c.put.ensures c.put-2.ensures) c.write_point.ensures) c.put-3.ensures) c.put_number.ensures) c.put-4.ensures)
    (search rules)
