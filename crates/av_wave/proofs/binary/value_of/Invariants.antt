use Rattle.std.proofs.Common.{◌≡◌, drop}
use Rattle.av_wave.specs.inner.Codes.{binary_value, binary_from}
use Rattle.av_wave.proofs.binary.value_of.Given as goal

abbrev pub invariant-loop-digit : goal.invariant-loop-digit
invariant-loop-digit l = binary_from l.value (drop l.digit-index l.digits) ≡ binary_value l.digits
