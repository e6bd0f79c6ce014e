-- A set cut into parts that have no point in common (textbook).
use Rattle.std.specs.Prelude.{ℤ, List}
use Rattle.av_poly.specs.Points.{Set, Has}

-- the sets have no point in common
abbrev pub AreDisjoint : Set → Set → Type 0
AreDisjoint a b = (z : List ℤ) → Has a z → Has b z → ⊥
