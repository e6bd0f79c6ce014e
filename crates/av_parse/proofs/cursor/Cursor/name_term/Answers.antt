use Rattle.std.proofs.Common.{arith}
use Rattle.std.proofs.lemmas.Grind.{common_steps}
use Rattle.av_parse.proofs.cursor.Cursor.name_term.Goals as goal

pub value_of-requires : goal.value_of-requires
value_of-requires c = grind (arith, common_steps)
