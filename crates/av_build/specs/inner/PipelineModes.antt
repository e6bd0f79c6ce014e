-- The modes of a helper's lane from its moments.
use Rattle.std.specs.Prelude.{◌≡◌, ℕ, List, [], ◌∷◌, None}
use Rattle.av_base.specs.declared.width.Width.{Width}
use Rattle.av_flat.specs.Trees.{Tree, FlatSystem}
use Rattle.av_kinds.specs.declared.program.Inlet.TheVariants.{Taps}
use Rattle.av_kinds.specs.declared.program.ProgramSite.{ProgramSite}
use Rattle.av_kinds.specs.Programs.{Mode}
use Rattle.av_history.specs.Widths.{read_width}
use Rattle.av_build.specs.declared.moments.PipelineMoments.{PipelineMoments}
use Rattle.av_build.specs.inner.Windows.{windows_by}
use Rattle.av_build.specs.inner.Moments.{site_by}
use Rattle.av_build.specs.inner.Programmed.{inlet_by, one_site}

-- at entry points the reference, whose words may have another width
pub record IsEntryMode (s : FlatSystem) (bits : ℕ) (t : Tree) (found : PipelineMoments) (mode : Mode) : Type 0 where
  pub site : ProgramSite
  pub site_is : site ≡ site_by (inlet_by s (λ j. j) None t) site.width found.entries
  pub width : site.width.bits ≡ read_width s bits None t
  pub is : mode ≡ record { windows = windows_by found.entry_marks; work = one_site site t }

-- elsewhere its own word at the point before
abbrev pub own_mode_by : Width → Tree → PipelineMoments → Mode
own_mode_by width t found = record { windows = windows_by found.own_marks; work = one_site (site_by Taps width found.own) t }

pub record ArePipelineModes (s : FlatSystem) (width : Width) (t : Tree) (found : PipelineMoments) (modes : List Mode) : Type 0 where
  pub entry : Mode
  pub is_entry : IsEntryMode s width.bits t found entry
  pub are : modes ≡ entry ∷ own_mode_by width t found ∷ []
