-- The widths of the words that places of trees read.
use Rattle.std.specs.Prelude.{◌≡◌, ℕ, Option, Some, None, slice_get}
use Rattle.av_flat.specs.Trees.{Tree, Variable, FlatSystem, reference, pick}
use Rattle.av_space.specs.Taps.{Pipeline}

abbrev pub width_of : Option Variable → ℕ
width_of None = 0
width_of (Some v) = v.width

-- that of the variable at a place
abbrev pub width_at : FlatSystem → ℕ → ℕ
width_at s place = width_of (slice_get s.variables place)

-- a helper hands on words as wide as those of the equation
abbrev pub handed_width : FlatSystem → ℕ → Option Pipeline → ℕ → ℕ
handed_width s own None place = width_at s place
handed_width s own (Some h) place = own

-- of what a place reads, in an equation of words of a width; a pick reads words of that width
abbrev pub read_width : FlatSystem → ℕ → Option Pipeline → Tree → ℕ
read_width s own h (reference place m) = handed_width s own h place
read_width s own h _ = own

-- the variable that a pick reads has words of that width
abbrev pub PicksAsWide : FlatSystem → ℕ → Tree → Type 0
PicksAsWide s own (pick place choices n) = width_at s place ≡ own
PicksAsWide s own _ = Unit {0}
