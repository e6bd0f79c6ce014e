use Rattle.std.proofs.Common.{rules, arith}
use Rattle.std.proofs.lemmas.Grind.{common_steps}
use Rattle.av_page.proofs.Putting.{Puts-none, Puts-more, Puts-is}
use Rattle.av_vtext.proofs.listing.write_indices.Goals as goal

pub returns-in_default : goal.returns-in_default
returns-in_default g c = Puts-is (Puts-none _ _) (search rules)

pub returns-in-len1-up : goal.returns-in-len1-up
returns-in-len1-up g c = Puts-is (Puts-more c.put_number.ensures c.write_later.ensures) (grind (arith, common_steps))
