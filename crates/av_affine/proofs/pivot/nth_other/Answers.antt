use Rattle.std.proofs.Common.{arith}
use Rattle.av_affine.proofs.Sums.{skip_before, skip_after}
use Rattle.av_affine.proofs.pivot.nth_other.Goals as goal

pub returns-then-place-left-clause-value : goal.returns-then-place-left-clause-value
returns-then-place-left-clause-value c = let e = skip_before c.args.left c.args.place c.if-place-left.true in omega (arith, e)

pub returns-else-place-left-clause-value : goal.returns-else-place-left-clause-value
returns-else-place-left-clause-value c = let e = skip_after c.args.left c.args.place c.if-place-left.false in omega (arith, e)
