use Rattle.std.proofs.Common.{arith}
use Rattle.std.proofs.lemmas.Grind.{common_steps}
use Rattle.av_parse.proofs.cursor.Cursor.text.Goals as goal

pub returns-in-len1-up-clause-in_range : goal.returns-in-len1-up-clause-in_range
returns-in-len1-up-clause-in_range c = grind (arith, common_steps)
