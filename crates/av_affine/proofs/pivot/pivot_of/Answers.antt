use Rattle.std.proofs.Common.{arith}
use Rattle.std.proofs.lemmas.Grind.{common_steps}
use Rattle.av_affine.proofs.Pivots.{some_odd, some_even}
use Rattle.av_affine.proofs.pivot.pivot_of.Goals as goal

pub unreachable-requires : goal.unreachable-requires
unreachable-requires c = some_odd c.args.vector.now c.requires.primitive c.requires.small c.in_default.ensures.none c.in_default-last_of.ensures.none

pub unreachable-requires-in_default-last_of-2 : goal.unreachable-requires-in_default-last_of-2
unreachable-requires-in_default-last_of-2 c = some_even c.args.vector.now c.requires.primitive c.requires.small c.in_default.ensures.none c.in_default-last_of-2.ensures.none

pub returns : goal.returns
returns c = grind (arith, common_steps)
