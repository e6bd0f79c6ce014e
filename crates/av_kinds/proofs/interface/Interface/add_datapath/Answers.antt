use Rattle.std.proofs.Common.{arith}
use Rattle.std.proofs.lemmas.Grind.{common_steps}
use Rattle.av_kinds.proofs.interface.Interface.add_datapath.Goals as goal

pub returns-clause-datapath : goal.returns-clause-datapath
returns-clause-datapath c = grind (arith, common_steps)

pub loop-site-preserved : goal.loop-site-preserved
loop-site-preserved c = grind (arith, common_steps)
