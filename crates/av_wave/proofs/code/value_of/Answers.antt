use Rattle.std.proofs.Common.{◌-◌, ◌^◌, arith}
use Rattle.av_wave.proofs.Codes.{value_above}
use Rattle.av_wave.proofs.code.value_of.Goals as goal

pub returns-in_err-checked_mul-clause-none : goal.returns-in_err-checked_mul-clause-none
returns-in_err-checked_mul-clause-none c =
    rw c.from_residual.ensures
    (value_above c.args.code.now (c.loop-at.at - 1) c.loop-at.at c.loop-at.value (2 ^ 32) (omega arith) (omega arith) c.loop-at.invariant.1 (omega (arith, c.in_err-checked_mul.ensures)))

pub returns-in_err-value-clause-none : goal.returns-in_err-value-clause-none
returns-in_err-value-clause-none c =
    rw c.from_residual-in_err-value.ensures
    (value_above c.args.code.now (c.loop-at.at - 1) c.loop-at.at c.loop-at.value (2 ^ 32) (omega arith) (omega arith) c.loop-at.invariant.1
    (omega (arith, c.in_err-value.ensures, c.in_ok-checked_mul.ensures, c.from-low.ensures, c.saturating_sub.ensures)))
