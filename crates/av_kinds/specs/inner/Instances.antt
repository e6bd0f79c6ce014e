-- The instance of a cell: what the ports of its kind take, place by place. A place with fewer selections than its kind has room for takes its last source
-- once more, and a window that is not there goes from 1 to 0.
use Rattle.std.specs.Prelude.{ℕ, suc, zero, ◌+◌, Bool, true, false, List, [], ◌∷◌, ◌++◌, length, if◌then◌else◌}
use Rattle.av_base.specs.declared.width.Width.{Width}
use Rattle.av_net.specs.declared.operation.Operand.{Operand}
use Rattle.av_net.specs.declared.operation.Operand.TheVariants.{Name, Literal}
use Rattle.av_net.specs.declared.plan.Instance.{Instance}
use Rattle.av_kinds.specs.declared.program.WordSource.{WordSource}
use Rattle.av_kinds.specs.declared.program.Window.{Window}
use Rattle.av_kinds.specs.declared.program.Selection.{Selection}
use Rattle.av_kinds.specs.declared.program.Inlet.{Inlet}
use Rattle.av_kinds.specs.declared.program.ProgramSite.{ProgramSite}
use Rattle.av_kinds.specs.declared.program.WordSource.TheVariants.{Word, Input, Line}
use Rattle.av_kinds.specs.declared.program.Inlet.TheVariants.{Inputs, Taps, Pipe}
use Rattle.av_kinds.specs.Programs.{Work, Mode, is_active, no_mode, mode_at, Lane}
use Rattle.av_kinds.specs.inner.Counts.{bound}
use Rattle.av_kinds.specs.Names.{Labels, line_name, input_name, instance_name}
use Rattle.av_kinds.specs.declared.shape.SiteShape.{SiteShape}
use Rattle.av_kinds.specs.inner.Shapes.{ModeShape, LaneShape}
use Rattle.av_kinds.specs.inner.Kinds.{counts}

abbrev pub operand_of : Labels → Width → WordSource → Operand
operand_of names w (Word n) = Literal w n
operand_of names w (Input k) = Name (input_name k)
operand_of names w (Line q d) = Name (line_name names q d)

-- ---- a place

abbrev pub words_for : (WordSource → Operand) → ℕ → List Selection → WordSource → List Operand
words_for f zero selections otherwise = f otherwise ∷ []
words_for f (suc n) [] otherwise = f otherwise ∷ words_for f n [] otherwise
words_for f (suc n) (l ∷ selections) otherwise = f l.source ∷ words_for f n selections otherwise

abbrev pub bounds_for : ℕ → List Selection → List Operand
bounds_for zero selections = []
bounds_for (suc n) [] = bound 0 ∷ bounds_for n []
bounds_for (suc n) (l ∷ selections) = bound l.last ∷ bounds_for n selections

abbrev pub operands_in : Labels → Inlet → Width → ℕ → ProgramSite → List Operand
operands_in names Inputs w n site = words_for (operand_of names w) n site.selections site.otherwise ++ bounds_for n site.selections
operands_in names Taps w n site = words_for (operand_of names w) n site.selections site.otherwise ++ bounds_for n site.selections
operands_in names (Pipe h) w n site = []

abbrev pub site_operands : Labels → SiteShape → ProgramSite → List Operand
site_operands names shape site = operands_in names shape.inlet shape.width shape.selections site

-- ---- a mode

abbrev pub sites_operands : Labels → List SiteShape → List ProgramSite → List Operand
sites_operands names [] sites = []
sites_operands names (shape ∷ shapes) [] = []
sites_operands names (shape ∷ shapes) (site ∷ sites) = site_operands names shape site ++ sites_operands names shapes sites

abbrev pub windows_for : ℕ → List Window → List Operand
windows_for zero windows = []
windows_for (suc n) [] = bound 1 ∷ bound 0 ∷ windows_for n []
windows_for (suc n) (s ∷ windows) = bound s.first ∷ bound s.last ∷ windows_for n windows

abbrev pub tested_operands : Labels → ModeShape → Mode → List Operand
tested_operands names shape mode = sites_operands names shape.sites mode.work.sites ++ windows_for shape.windows mode.windows

-- those of its windows where it is tested
abbrev pub mode_operands : Labels → Bool → ModeShape → Mode → List Operand
mode_operands names true shape mode = tested_operands names shape mode
mode_operands names false shape mode = sites_operands names shape.sites mode.work.sites

-- ---- a lane

abbrev pub modes_operands : Labels → List ModeShape → List Mode → List Operand
modes_operands names [] modes = []
modes_operands names (f ∷ []) modes = mode_operands names false f (mode_at modes f.number)
modes_operands names (f ∷ g ∷ shapes) modes = mode_operands names true f (mode_at modes f.number) ++ modes_operands names (g ∷ shapes) modes

-- the work of the first mode of the shape that is active at the number, or of the last one
abbrev pub work_for : ℕ → List ModeShape → List Mode → Work
work_for c [] modes = no_mode.work
work_for c (f ∷ []) modes = (mode_at modes f.number).work
work_for c (f ∷ g ∷ shapes) modes = if is_active c (mode_at modes f.number) then (mode_at modes f.number).work else work_for c (g ∷ shapes) modes

-- ---- the lanes of a cell, with numbers from q on

abbrev pub lanes_operands : Labels → List LaneShape → List Lane → List Operand
lanes_operands names [] lanes = []
lanes_operands names (shape ∷ shapes) [] = []
lanes_operands names (shape ∷ shapes) (lane ∷ lanes) = modes_operands names shape.modes lane.modes ++ lanes_operands names shapes lanes

-- so many
abbrev pub outputs_from : Labels → ℕ → ℕ → List (List ℕ)
outputs_from names q zero = []
outputs_from names q (suc n) = names.value q ∷ outputs_from names (q + 1) n

abbrev pub cell_operands : Labels → List ℕ → List LaneShape → List Lane → List Operand
cell_operands names counter shape lanes = (if counts shape then Name counter ∷ [] else []) ++ lanes_operands names shape lanes

-- of the cell p, whose lanes have numbers from q on
abbrev pub instance_by : Labels → List ℕ → ℕ → ℕ → ℕ → List LaneShape → List Lane → Instance
instance_by names counter p kind q shape lanes = record {
  name = instance_name p;
  kind = kind;
  inputs = cell_operands names counter shape lanes;
  outputs = outputs_from names q (length shape);
}
