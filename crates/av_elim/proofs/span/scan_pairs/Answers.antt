use Rattle.std.proofs.Common.{arith}
use Rattle.std.proofs.lemmas.Grind.{common_steps}
use Rattle.av_elim.proofs.span.scan_pairs.Goals as goal

pub pair_step-all-requires-clause-above : goal.pair_step-all-requires-clause-above
pair_step-all-requires-clause-above c = grind (arith, common_steps)

pub pair_step-all-requires-clause-below : goal.pair_step-all-requires-clause-below
pair_step-all-requires-clause-below c = grind (arith, common_steps)
