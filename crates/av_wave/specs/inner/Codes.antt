-- Codes and binary digits read as numbers.
use Rattle.std.specs.Prelude.{◌≡◌, ℕ, ◌+◌, ◌-◌, ◌*◌, true, List, [], ◌∷◌}
use Rattle.std.specs.Char.{is_ascii_digit}
use Rattle.std.specs.List.{AllByRecursion}

-- the number whose digits to the base 94 these are, the lowest first, each from `!` on
abbrev pub code_value : List ℕ → ℕ
code_value [] = 0
code_value (d ∷ digits) = (d - 33) + 94 * code_value digits

-- the number that the binary digits write behind those of n, the highest first
abbrev pub binary_from : ℕ → List ℕ → ℕ
binary_from n [] = n
binary_from n (d ∷ digits) = binary_from (2 * n + (d - 48)) digits

-- the number that the binary digits write
abbrev pub binary_value : List ℕ → ℕ
binary_value digits = binary_from 0 digits

-- decimal digits alone
abbrev pub AreDigits : List ℕ → Type 0
AreDigits digits = AllByRecursion (λ d. is_ascii_digit d ≡ true) digits
