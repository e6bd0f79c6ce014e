-- Sums of numbers that are capped at the greatest of 128 bits.
use Rattle.std.proofs.Common.{◌≡◌, ℕ, ◌+◌, ◌-◌, ◌<◌, ◌≤◌, ◌^◌, min, arith, ◌∙◌}
use Rattle.std.proofs.lemmas.Grind.{common_steps}

pub capped_sum : (a b : ℕ) → min (min a (2 ^ 128 - 1) + min b (2 ^ 128 - 1)) (2 ^ 128 - 1) ≡ min (a + b) (2 ^ 128 - 1)
capped_sum a b = grind (arith, common_steps)

-- of a sum of two capped numbers
pub sum_of : (a b m n k : ℕ) → m ≡ min a (2 ^ 128 - 1) → n ≡ min b (2 ^ 128 - 1) → k ≡ min (m + n) (2 ^ 128 - 1) → k ≡ min (a + b) (2 ^ 128 - 1)
sum_of a b m n k e f g = g ∙ rw (e, f) (capped_sum a b)

pub above : (a n : ℕ) → n ≡ min a (2 ^ 128 - 1) → 16 < n → 16 < a
above a n e l = grind (arith, common_steps, e, l)

pub not_above : (a n : ℕ) → n ≡ min a (2 ^ 128 - 1) → n ≤ 16 → a ≤ 16
not_above a n e l = grind (arith, common_steps, e, l)
