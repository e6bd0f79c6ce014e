use Rattle.std.proofs.Common.{rules}
use Rattle.av_page.proofs.Putting.{Puts-more, Puts-is}
use Rattle.av_vtext.proofs.operation.write_choice.Goals as goal

pub returns : goal.returns
returns g c = Puts-is (Puts-more (Puts-more (Puts-more (Puts-more c.write_operand.ensures c.put.ensures) c.write_operand-2.ensures) c.put-2.ensures) c.write_operand-3.ensures) (search rules)
