-- Why a set has no bounds, each answer exactly: its rows, an unbounded index, no rational point or a gap.
use Rattle.std.specs.Prelude.{◌≡◌, ◌<◌, ◌≤◌, length}
use Rattle.av_poly.specs.Points.{Set}
use Rattle.av_poly.specs.Rational.{IsFirstEndless, HasNoBounds}
use Rattle.av_elim.specs.declared.bounding.Elim.{Elim}
use Rattle.av_elim.specs.declared.bounding.Elim.TheVariants.{Constraints, Unbounded, Empty, Memory}

-- the cause of an answer: above 20 rows their number; else as the rational set has it; out of memory has none
abbrev pub IsCause : Set → Elim → Type 0
IsCause set (Constraints n) = (n ≡ length set.rows) × (20 < n)
IsCause set (Unbounded index) = (length set.rows ≤ 20) × IsFirstEndless set index
IsCause set Empty = (length set.rows ≤ 20) × HasNoBounds set
IsCause set Memory = Unit {0}
