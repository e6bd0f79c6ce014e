-- Decimal digits.
use Rattle.std.specs.Prelude.{ℕ, Bool, ◌&&◌, nat_eq, nat_lt, List, length}
use Rattle.std.specs.List.{prefix_len}
use Rattle.std.specs.Char.{is_ascii_digit}

-- all bytes are digits, and there is one
abbrev pub are_digits : List ℕ → Bool
are_digits text = nat_lt 0 (length text) && nat_eq (prefix_len is_ascii_digit text) (length text)
