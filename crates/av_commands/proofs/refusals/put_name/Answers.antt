use Rattle.std.proofs.Common.{◌++◌, ap}
use Rattle.av_page.proofs.Putting.{Puts-more, Puts-is}
use Rattle.av_commands.proofs.refusals.put_name.Goals as goal

pub returns : goal.returns
returns g c = Puts-is (Puts-more c.put.ensures c.put-2.ensures) (ap (λ n. c.args.words.now ++ n) c.as_str.ensures)
