use Rattle.std.proofs.Common.{arith}
use Rattle.std.proofs.lemmas.Grind.{common_steps}
use Rattle.av_net.proofs.flattening.part_operation.Goals as goal

pub returns-in_ok-part_operand-in-Choose-3 : goal.returns-in_ok-part_operand-in-Choose-3
returns-in_ok-part_operand-in-Choose-3 c = grind (arith, common_steps)

pub returns-in_ok-part_name-in-Part : goal.returns-in_ok-part_name-in-Part
returns-in_ok-part_name-in-Part c = grind (arith, common_steps)

pub returns-in_ok-part_name-in-Widen : goal.returns-in_ok-part_name-in-Widen
returns-in_ok-part_name-in-Widen c = grind (arith, common_steps)

pub returns-in_ok-part_operand-in-Signed-2 : goal.returns-in_ok-part_operand-in-Signed-2
returns-in_ok-part_operand-in-Signed-2 c = grind (arith, common_steps)

pub returns-in_ok-part_operand-in-Binary-2 : goal.returns-in_ok-part_operand-in-Binary-2
returns-in_ok-part_operand-in-Binary-2 c = grind (arith, common_steps)

pub returns-in_ok-part_operand-in-Plain : goal.returns-in_ok-part_operand-in-Plain
returns-in_ok-part_operand-in-Plain c = grind (arith, common_steps)
