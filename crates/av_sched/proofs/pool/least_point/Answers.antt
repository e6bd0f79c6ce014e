use Rattle.std.proofs.Common.{arith}
use Rattle.std.proofs.lemmas.Grind.{common_steps}
use Rattle.av_sched.proofs.pool.least_point.Goals as goal

pub loop-k-preserved : goal.loop-k-preserved
loop-k-preserved c = grind (arith, common_steps)

pub lead_at-next-requires-clause-point : goal.lead_at-next-requires-clause-point
lead_at-next-requires-clause-point c = grind (arith, common_steps)

pub lead_at-next-requires-clause-map : goal.lead_at-next-requires-clause-map
lead_at-next-requires-clause-map c = grind (arith, common_steps)

pub lead_at-next-requires-clause-consumer : goal.lead_at-next-requires-clause-consumer
lead_at-next-requires-clause-consumer c = grind (arith, common_steps)
