-- Programs as the code keeps them: with trees as they lie in memory.
use Rattle.std.specs.Prelude.{ℕ, List, map}
use Rattle.av_base.specs.declared.width.Width.{Width}
use Rattle.av_flat.specs.declared.tree.Tree.{Tree as TreeMade}
use Rattle.av_flat.specs.Trees.{view}
use Rattle.av_kinds.specs.declared.program.Window.{Window}
use Rattle.av_kinds.specs.declared.program.ProgramSite.{ProgramSite}
use Rattle.av_kinds.specs.declared.program.CellLanes.{CellLanes}
use Rattle.av_kinds.specs.Programs.{Work, Mode, Lane, Program}

pub record WorkMade : Type 0 where
  pub sites : List ProgramSite
  pub tree : TreeMade

pub record ModeMade : Type 0 where
  pub windows : List Window
  pub work : WorkMade

pub record LaneMade : Type 0 where
  pub home : ℕ
  pub rank : ℕ
  pub width : Width
  pub modes : List ModeMade
  pub length : ℕ

pub record ProgramMade : Type 0 where
  pub inputs : List Width
  pub lanes : List LaneMade
  pub cells : List CellLanes
  pub kinds : List ℕ
  pub outputs : List ℕ
  pub stride : ℕ

-- ---- what they say

abbrev pub work_of : WorkMade → Work
work_of work = record { sites = work.sites; tree = view work.tree }

abbrev pub mode_of : ModeMade → Mode
mode_of m = record { windows = m.windows; work = work_of m.work }

abbrev pub lane_of : LaneMade → Lane
lane_of lane = record { home = lane.home; rank = lane.rank; width = lane.width; modes = map mode_of lane.modes; length = lane.length }

abbrev pub program_of : ProgramMade → Program
program_of program = record { inputs = program.inputs; lanes = map lane_of program.lanes; cells = program.cells; kinds = program.kinds; outputs = program.outputs; stride = program.stride }
