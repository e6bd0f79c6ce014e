use Rattle.std.proofs.Common.{arith}
use Rattle.std.proofs.lemmas.Grind.{common_steps}
use Rattle.av_check.proofs.checking.fault_at.Goals as goal

pub judge_pieces-requires-clause-stands : goal.judge_pieces-requires-clause-stands
judge_pieces-requires-clause-stands c = grind (arith, common_steps)

pub returns-in_ok-outside-in-Missing : goal.returns-in_ok-outside-in-Missing
returns-in_ok-outside-in-Missing c = grind (arith, common_steps)
