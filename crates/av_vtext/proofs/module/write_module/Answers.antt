use Rattle.av_net.specs.Texts as texts
use Rattle.av_page.proofs.Putting.{Puts-more}
use Rattle.av_vtext.proofs.module.write_module.Goals as goal

pub returns : goal.returns
unfolding texts.module_text
returns g c = Puts-more (Puts-more (Puts-more c.write_header.ensures c.write_declarations.ensures) c.write_items.ensures) c.put.ensures
