use Rattle.std.proofs.Common.{arith}
use Rattle.std.proofs.lemmas.Grind.{common_steps}
use Rattle.av_kinds.proofs.shape.lane_shape.Goals as goal

pub returns-in_ok-mode_shapes-in-None : goal.returns-in_ok-mode_shapes-in-None
returns-in_ok-mode_shapes-in-None c = grind (arith, common_steps)

pub returns-in_ok-mode_shapes-in-Some : goal.returns-in_ok-mode_shapes-in-Some
returns-in_ok-mode_shapes-in-Some c = grind (arith, common_steps)
