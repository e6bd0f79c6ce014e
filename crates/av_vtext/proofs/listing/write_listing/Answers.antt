use Rattle.std.proofs.Common.{rules}
use Rattle.av_net.specs.Texts as texts
use Rattle.av_page.proofs.Putting.{Puts-more, Puts-is}
use Rattle.av_vtext.proofs.listing.write_listing.Goals as goal

pub returns : goal.returns
unfolding texts.listing_text
returns g c = Puts-is (Puts-more c.write_entry_lines.ensures c.write_entry_lines-2.ensures) (search rules)
