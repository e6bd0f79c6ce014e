use Rattle.std.proofs.Common.{◌≡◌, take, map}
use Rattle.std.specs.Int.{int_div_euclid}
use Rattle.av_affine.proofs.primitive.quotients.Given as goal

abbrev pub invariant-loop-number : goal.invariant-loop-number
invariant-loop-number l = l.quotients.items ≡ map (λ x. int_div_euclid x l.divisor) (take l.number-index l.numbers)
