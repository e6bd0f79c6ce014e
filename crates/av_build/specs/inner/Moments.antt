-- The sources of a place by the counter's numbers, and the site that they make.
use Rattle.std.specs.Prelude.{Bool, false, ◌&&◌, nat_eq, List, [], ◌∷◌, if◌then◌else◌}
use Rattle.av_base.specs.declared.width.Width.{Width}
use Rattle.av_kinds.specs.declared.program.WordSource.{WordSource}
use Rattle.av_kinds.specs.declared.program.WordSource.TheVariants.{Word, Input, Line}
use Rattle.av_kinds.specs.declared.program.Selection.{Selection}
use Rattle.av_kinds.specs.declared.program.Inlet.{Inlet}
use Rattle.av_kinds.specs.declared.program.ProgramSite.{ProgramSite}
use Rattle.av_build.specs.declared.moments.Moment.{Moment}

abbrev pub same_source : WordSource → WordSource → Bool
same_source (Word m) (Word n) = nat_eq m n
same_source (Input k) (Input l) = nat_eq k l
same_source (Line p d) (Line q e) = nat_eq p q && nat_eq d e
same_source _ _ = false

-- behind a moment: a selection where another source follows
abbrev pub selections_from : Moment → List Moment → List Selection
selections_from t [] = []
selections_from t (u ∷ moments) = if same_source t.source u.source then selections_from u moments else record { last = t.number; source = t.source } ∷ selections_from u moments

-- and the source of the last one
abbrev pub last_from : Moment → List Moment → WordSource
last_from t [] = t.source
last_from t (u ∷ moments) = last_from u moments

abbrev pub site_by : Inlet → Width → List Moment → ProgramSite
site_by inlet width [] = record { inlet = inlet; width = width; selections = []; otherwise = Word 0 }
site_by inlet width (t ∷ moments) = record { inlet = inlet; width = width; selections = selections_from t moments; otherwise = last_from t moments }
