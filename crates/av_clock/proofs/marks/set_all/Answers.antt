use Rattle.std.proofs.Common.{arith}
use Rattle.std.proofs.lemmas.Grind.{elements}
use Rattle.av_clock.proofs.marks.set_all.Goals as goal

pub returns-clause-marked : goal.returns-clause-marked
returns-clause-marked c = grind (arith, elements)
