use Rattle.std.proofs.Common.{◌^◌, arith}
use Rattle.std.proofs.lemmas.Grind.{common_steps}
use Rattle.av_base.proofs.Numbers.{number_above}
use Rattle.av_base.proofs.decimal.decimal_value.Goals as goal

pub returns-in_err-tens-clause-none : goal.returns-in_err-tens-clause-none
returns-in_err-tens-clause-none c =
    rw c.from_residual.ensures
    (rw (← c.loop-digit.invariant) (number_above c.loop-digit.value c.loop-digit.digit-index (2 ^ 64) c.args.digits.now (omega arith) (omega (arith, c.in_err-tens.ensures))))

pub returns-in_err-value-clause-none : goal.returns-in_err-value-clause-none
returns-in_err-value-clause-none c =
    rw c.from_residual-in_err-value.ensures
    (rw (← c.loop-digit.invariant) (number_above c.loop-digit.value c.loop-digit.digit-index (2 ^ 64) c.args.digits.now (omega arith) (omega (arith, c.in_err-value.ensures, c.in_ok-tens.ensures, c.from.ensures, c.saturating_sub.ensures))))

pub loop-digit-preserved : goal.loop-digit-preserved
loop-digit-preserved c = grind (arith, common_steps)
