use Rattle.av_vnames.proofs.Table.{bits_some, bits_none}
use Rattle.av_vnames.proofs.widths.Widths.bits.Goals as goal

pub returns-in-Some : goal.returns-in-Some
returns-in-Some c = bits_some c.self.inside.table c.args.self.now c.as_bytes.result.now c.args.name.now c.get.result c.in-Some.width c.self.view_is c.get.ensures c.as_bytes.ensures.value c.in-Some.is

pub returns-in-None : goal.returns-in-None
returns-in-None c = bits_none c.self.inside.table c.args.self.now c.as_bytes.result.now c.args.name.now c.get.result c.self.view_is c.get.ensures c.as_bytes.ensures.value c.in-None.is
