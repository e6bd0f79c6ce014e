use Rattle.std.proofs.Common.{◌^◌, arith}
use Rattle.av_wave.proofs.Digits.{binary_above}
use Rattle.av_wave.proofs.binary.value_of.Goals as goal

pub returns-in_err-twice-clause-none : goal.returns-in_err-twice-clause-none
returns-in_err-twice-clause-none c =
    rw c.from_residual.ensures
    (rw (← c.loop-digit.invariant) (binary_above c.loop-digit.value c.loop-digit.digit-index (2 ^ 64) c.args.digits.now (omega arith) (omega (arith, c.in_err-twice.ensures))))

pub returns-in_err-value-clause-none : goal.returns-in_err-value-clause-none
returns-in_err-value-clause-none c =
    rw c.from_residual-in_err-value.ensures
    (rw (← c.loop-digit.invariant) (binary_above c.loop-digit.value c.loop-digit.digit-index (2 ^ 64) c.args.digits.now (omega arith) (omega (arith, c.in_err-value.ensures, c.in_ok-twice.ensures, c.from.ensures, c.saturating_sub.ensures))))
