-- The lanes that sources name are there.
use Rattle.std.specs.Prelude.{ℕ, ◌<◌}
use Rattle.std.specs.List.{AllByRecursion}
use Rattle.av_kinds.specs.declared.program.WordSource.{WordSource}
use Rattle.av_kinds.specs.declared.program.WordSource.TheVariants.{Word, Input, Line}
use Rattle.av_kinds.specs.declared.program.Selection.{Selection}
use Rattle.av_kinds.specs.declared.program.ProgramSite.{ProgramSite}
use Rattle.av_kinds.specs.Programs.{Mode, Lane}

-- among as many lanes there is the one that the source names
abbrev pub IsThere : ℕ → WordSource → Type 0
IsThere count (Word n) = Unit {0}
IsThere count (Input k) = Unit {0}
IsThere count (Line q d) = q < count

abbrev pub SiteThere : ℕ → ProgramSite → Type 0
SiteThere count site = AllByRecursion (λ (l : Selection). IsThere count l.source) site.selections × IsThere count site.otherwise

abbrev pub ModeThere : ℕ → Mode → Type 0
ModeThere count mode = AllByRecursion (SiteThere count) mode.work.sites

abbrev pub LaneThere : ℕ → Lane → Type 0
LaneThere count lane = AllByRecursion (ModeThere count) lane.modes
