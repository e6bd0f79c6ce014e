use Rattle.std.proofs.Common.{arith}
use Rattle.std.proofs.lemmas.Grind.{common_steps}
use Rattle.av_names.proofs.flat_system.piece.Goals as goal

pub returns : goal.returns
returns c = grind (arith, common_steps)

pub tree-requires-clause-tables : goal.tree-requires-clause-tables
tree-requires-clause-tables c = grind (arith, common_steps)
