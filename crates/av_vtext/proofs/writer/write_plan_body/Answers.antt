use Rattle.av_page.proofs.Putting.{Puts-more}
use Rattle.av_vtext.proofs.writer.write_plan_body.Goals as goal

pub returns : goal.returns
returns g c = Puts-more (Puts-more c.write_listing.ensures c.write_kinds.ensures) c.write_top.ensures
