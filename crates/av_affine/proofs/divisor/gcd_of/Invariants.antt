use Rattle.std.proofs.Common.{ℕ, ◌≤◌, take}
use Rattle.av_affine.specs.Numbers.{AtMost, IsGcdOf}
use Rattle.av_affine.proofs.divisor.gcd_of.Given as goal

abbrev pub invariant-loop-number : goal.invariant-loop-number
invariant-loop-number l = IsGcdOf (take l.number-index l.numbers) l.divisor × ((most : ℕ) → AtMost most l.numbers → l.divisor ≤ most)
