use Rattle.std.proofs.Common.{rules}
use Rattle.av_page.proofs.Putting.{Puts-more, Puts-is}
use Rattle.av_vtext.proofs.listing.write_entry_line.Goals as goal

pub returns : goal.returns
returns g c = Puts-is (Puts-more (Puts-more c.put.ensures c.write_entry.ensures) c.put-2.ensures) (search rules)
