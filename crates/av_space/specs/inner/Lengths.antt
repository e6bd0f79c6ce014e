-- Lines of links.
use Rattle.std.specs.Prelude.{◌&&◌, Bool, nat_eq, List}
use Rattle.av_flat.specs.Trees.{FlatSystem}
use Rattle.av_flat.specs.declared.timed.Helper.{Helper}
use Rattle.av_space.specs.declared.cells.Cell.{Cell}
use Rattle.av_space.specs.declared.cells.Link.{Link}
use Rattle.av_space.specs.declared.lengths.DelayLine.{DelayLine}
use Rattle.av_space.specs.Taps.{helper_read}
use Rattle.av_space.specs.Links.{is_same}

abbrev pub is_line : DelayLine → DelayLine → Bool
is_line a b = nat_eq a.cell.0 b.cell.0 && is_same a.helper b.helper

-- the line that a link reads
abbrev pub line_of : FlatSystem → List Helper → List Cell → Link → DelayLine
line_of s hs cells l = record { cell = record { 0 = l.producer }; helper = helper_read s hs cells l.consumer l.site }
