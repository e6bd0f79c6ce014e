use Rattle.std.proofs.Common.{arith}
use Rattle.std.proofs.lemmas.Grind.{common_steps}
use Rattle.av_net.proofs.operation.Operation.copied.Goals as goal

pub returns-in_ok-new-in-Part : goal.returns-in_ok-new-in-Part
returns-in_ok-new-in-Part c = grind (arith, common_steps)

pub returns-in_ok-new-in-Widen : goal.returns-in_ok-new-in-Widen
returns-in_ok-new-in-Widen c = grind (arith, common_steps)

pub returns-in_ok-copied-in-Signed-2 : goal.returns-in_ok-copied-in-Signed-2
returns-in_ok-copied-in-Signed-2 c = grind (arith, common_steps)

pub returns-in_ok-copied-in-Binary-2 : goal.returns-in_ok-copied-in-Binary-2
returns-in_ok-copied-in-Binary-2 c = grind (arith, common_steps)

pub returns-in_ok-copied-in-Choose-3 : goal.returns-in_ok-copied-in-Choose-3
returns-in_ok-copied-in-Choose-3 c = grind (arith, common_steps)
