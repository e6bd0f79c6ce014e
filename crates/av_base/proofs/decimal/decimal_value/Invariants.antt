use Rattle.std.proofs.Common.{◌≡◌, drop}
use Rattle.av_base.specs.Tokens.{number_of, number_from}
use Rattle.av_base.proofs.decimal.decimal_value.Given as goal

abbrev pub invariant-loop-digit : goal.invariant-loop-digit
invariant-loop-digit l = number_from l.value (drop l.digit-index l.digits) ≡ number_of l.digits
