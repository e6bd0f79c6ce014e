use Rattle.std.proofs.Common.{arith}
use Rattle.std.proofs.lemmas.Grind.{common_steps}
use Rattle.av_parse.proofs.cursor.Cursor.number_term.Goals as goal

pub from_ascii-requires-2 : goal.from_ascii-requires-2
from_ascii-requires-2 c = grind (arith, common_steps)
