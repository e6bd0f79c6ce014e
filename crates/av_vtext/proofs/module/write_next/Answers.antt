use Rattle.std.proofs.Common.{rules}
use Rattle.av_page.proofs.Putting.{Puts-more, Puts-is}
use Rattle.av_vtext.proofs.module.write_next.Goals as goal

pub returns : goal.returns
returns g c = Puts-is (Puts-more (Puts-more c.put.ensures c.put-2.ensures) c.write_operand.ensures) (search rules)
