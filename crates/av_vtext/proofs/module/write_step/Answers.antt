use Rattle.std.proofs.Common.{rules}
use Rattle.av_page.proofs.Putting.{Puts-more, Puts-is}
use Rattle.av_vtext.proofs.module.write_step.Goals as goal

pub returns : goal.returns
returns g c = Puts-is (Puts-more (Puts-more (Puts-more (Puts-more c.write_edge.ensures c.write_reset.ensures) c.put.ensures) c.write_next.ensures) c.put-2.ensures) (search rules)
