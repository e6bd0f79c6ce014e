use Rattle.std.proofs.Common.{rules}
use Rattle.av_page.proofs.Putting.{Puts-more, Puts-is}
use Rattle.av_vtext.proofs.module.write_module_ports.Goals as goal

pub returns : goal.returns
returns g c = Puts-is (Puts-more c.write_ports.ensures c.write_ports-2.ensures) (search rules)
