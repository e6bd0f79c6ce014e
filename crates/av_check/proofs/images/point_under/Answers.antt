use Rattle.std.proofs.Common.{arith}
use Rattle.std.proofs.lemmas.Grind.{common_steps}
use Rattle.av_check.proofs.images.point_under.Goals as goal

pub image_under-requires-clause-stands : goal.image_under-requires-clause-stands
image_under-requires-clause-stands c = grind (arith, common_steps)
