use Rattle.std.proofs.Common.{arith}
use Rattle.std.proofs.lemmas.Grind.{elements}
use Rattle.av_build.proofs.sorting.same_pieces.Goals as goal

pub loop-k-preserved : goal.loop-k-preserved
loop-k-preserved c = grind (arith, elements)

pub returns-then-a-k : goal.returns-then-a-k
returns-then-a-k c = grind (arith, elements)

pub returns : goal.returns
returns c = grind (arith, elements)
