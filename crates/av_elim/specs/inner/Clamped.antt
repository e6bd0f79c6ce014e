-- Coordinates brought within their limit.
use Rattle.std.specs.Prelude.{ℤ, pos, negsuc}
use Rattle.std.specs.Int.{int_max, int_min}

-- the nearest number of at most 4,095 in absolute value
abbrev pub clamp : ℤ → ℤ
clamp x = int_max (int_min x (pos 4095)) (negsuc 4094)
