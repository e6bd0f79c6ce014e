use Rattle.std.proofs.Common.{◌++◌, append_assoc, codes, sym}
use Rattle.av_page.proofs.Putting.{Puts-more, Puts-is}
use Rattle.av_commands.specs.Refusals.{place_text}
use Rattle.av_commands.proofs.alpha_refusals.put_name_and_place.Goals as goal

pub returns : goal.returns
returns g c = Puts-is (Puts-more c.put_name.ensures c.put_place.ensures) (sym (append_assoc (c.args.words.now ++ c.args.name.now) (codes " ") (place_text c.args.place)))
