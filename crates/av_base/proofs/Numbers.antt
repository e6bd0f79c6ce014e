-- The values of digits.
use Rattle.std.proofs.Common.{ℕ, suc, ◌+◌, ◌-◌, ◌*◌, ◌<◌, ◌≤◌, List, [], ◌∷◌, length, drop, get_or, ap, arith, drop-cons}
use Rattle.av_base.specs.Tokens.{number_from}

-- more digits make no number less
pub number_grows : (n : ℕ) (digits : List ℕ) → n ≤ number_from n digits
number_grows n [] = omega arith
number_grows n (b ∷ digits) = omega (arith, number_grows (10 * n + (b - 48)) digits)

-- a number whose first digits are above a bound is above it
pub number_above : (n count bound : ℕ) (digits : List ℕ) → count < length digits → bound ≤ 10 * n + (get_or digits count 0 - 48) → bound ≤ number_from n (drop count digits)
number_above n count bound digits lt above =
    let first = ap (number_from n) (drop-cons digits count 0 lt) in
    let grows = number_grows (10 * n + (get_or digits count 0 - 48)) (drop (suc count) digits) in
    omega (arith, first)
