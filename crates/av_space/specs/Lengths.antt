-- Lengths of delay lines in a table.
use Rattle.std.specs.Prelude.{◌≡◌, ℕ, List, unwrap_or}
use Rattle.std.specs.Ordering.{nat_cmp, ordering_then}
use Rattle.std.specs.Option.{option_cmp}
use Rattle.std.specs.declared.cmp.Ordering.{Ordering}
use Rattle.std.specs.BTreeMap.{BTreeMap, get}
use Rattle.av_flat.specs.Trees.{FlatSystem}
use Rattle.av_flat.specs.declared.timed.Helper.{Helper}
use Rattle.av_space.specs.declared.cells.Cell.{Cell}
use Rattle.av_space.specs.declared.cells.Link.{Link}
use Rattle.av_space.specs.declared.lengths.DelayLine.{DelayLine}
use Rattle.av_space.specs.Links.{line_length}

-- by cell, and then by helper
abbrev pub line_cmp : DelayLine → DelayLine → Ordering
line_cmp a b = ordering_then (nat_cmp a.cell.0 b.cell.0) (option_cmp nat_cmp a.helper b.helper)

-- the length of a line in a table, 0 where it has none
abbrev pub length_in : BTreeMap DelayLine ℕ → DelayLine → ℕ
length_in table line = unwrap_or (get line_cmp table line) 0

-- the table has the length of each line that these links read
abbrev pub AreLengths : FlatSystem → List Helper → List Cell → List Link → BTreeMap DelayLine ℕ → Type 0
AreLengths s hs cells links table = (q : DelayLine) → length_in table q ≡ line_length s hs cells links q.cell.0 q.helper
