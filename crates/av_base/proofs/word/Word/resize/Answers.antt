use Rattle.std.proofs.Common.{arith}
use Rattle.std.proofs.lemmas.Grind.{common_steps}
use Rattle.av_base.proofs.word.Word.resize.Goals as goal

pub returns-else-self-half : goal.returns-else-self-half
returns-else-self-half c = grind (arith, common_steps)
