-- Decimal digits, and the number that they spell.
use Rattle.std.proofs.Common.{ℕ, ◌<◌, List, [], ◌∷◌, length, IsTrue, arith}
use Rattle.std.specs.Char.{is_ascii_digit}
use Rattle.std.specs.List.{All}
use Rattle.std.proofs.lemmas.List.Elements.{All-cons, All-head, All-tail}
use Rattle.av_base.specs.Tokens.{IsDigits}

abbrev pub IsDigit : ℕ → Type 0
IsDigit b = IsTrue (is_ascii_digit b)

pub digits_from_all : (bytes : List ℕ) → 0 < length bytes → All IsDigit bytes → IsDigits bytes
digits_from_all [] some all = absurd (omega arith)
digits_from_all (b ∷ bytes) some all = (All-head IsDigit b bytes all, All-tail IsDigit b bytes all)

pub all_from_digits : (bytes : List ℕ) → IsDigits bytes → All IsDigit bytes
all_from_digits [] h = absurd h
all_from_digits (b ∷ bytes) h = All-cons IsDigit b bytes h.0 h.1
