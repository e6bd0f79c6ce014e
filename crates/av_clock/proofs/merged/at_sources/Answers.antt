use Rattle.std.proofs.Common.{arith}
use Rattle.std.proofs.lemmas.Grind.{common_steps}
use Rattle.av_clock.proofs.merged.at_sources.Goals as goal

pub loop-flip_flop-preserved : goal.loop-flip_flop-preserved
loop-flip_flop-preserved c = grind (arith, common_steps)
