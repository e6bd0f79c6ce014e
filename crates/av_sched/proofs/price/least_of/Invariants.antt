use Rattle.std.proofs.Common.{◌≤◌, All, take}
use Rattle.av_sched.proofs.price.least_of.Given as goal

abbrev pub invariant-loop-price : goal.invariant-loop-price
invariant-loop-price l = record {
  left : All (λ p. l.left ≤ p.left) (take l.price-index l.prices);
  size : All (λ p. l.size ≤ p.size) (take l.price-index l.prices);
}
