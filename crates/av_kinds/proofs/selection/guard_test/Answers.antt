use Rattle.std.proofs.Common.{arith}
use Rattle.std.proofs.lemmas.Grind.{common_steps}
use Rattle.av_kinds.proofs.selection.guard_test.Goals as goal

pub returns-in_ok-right-in-Within : goal.returns-in_ok-right-in-Within
returns-in_ok-right-in-Within c = grind (arith, common_steps)
