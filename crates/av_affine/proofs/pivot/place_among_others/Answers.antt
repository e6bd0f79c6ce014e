use Rattle.std.proofs.Common.{arith, ◌-◌}
use Rattle.av_affine.proofs.Sums.{skip_before, skip_after}
use Rattle.av_affine.proofs.pivot.place_among_others.Goals as goal

pub returns-then-number-left : goal.returns-then-number-left
returns-then-number-left c = skip_before c.args.left c.args.number c.if-number-left.true

pub returns-else-number-left : goal.returns-else-number-left
returns-else-number-left c = let e = skip_after c.args.left (c.args.number - 1) (omega arith) in omega (arith, e)
