-- What `run` and `trace` refuse, and what they write.
use Rattle.std.specs.Prelude.{◌≡◌, ℕ, Bool, if◌then◌else◌, List, [], ◌∷◌, ◌++◌, map, Some, codes}
use Rattle.av_tree.specs.Values.{Assignment}
use Rattle.av_tree.specs.Domains.{is_declared}
use Rattle.av_tree.specs.Counts.{Instance}
use Rattle.av_tree.specs.Solutions.{AreInputs, IsSolution}
use Rattle.av_flat.specs.declared.timed.Timed.{Timed}
use Rattle.av_flat.specs.Trees.{view_system}
use Rattle.av_names.specs.declared.size.Size.{Size}
use Rattle.av_names.specs.Sizes.{instance_of}
use Rattle.av_net.specs.declared.design.Entry.{Entry}
use Rattle.av_net.specs.declared.plan.Plan.{Plan}
use Rattle.av_net.specs.Clocked.{Run}
use Rattle.av_net.specs.Flat.{flat_of, flat_module}
use Rattle.av_net.specs.PlanTexts.{text2}
use Rattle.av_space.specs.declared.cells.Cells.{Cells}
use Rattle.av_data.specs.declared.fault.DataFault.{DataFault}
use Rattle.av_data.specs.Divisions.{IsDivided, HasNoMark}
use Rattle.av_data.specs.Data.{SpellsInputs, IsInputFault}
use Rattle.av_data.specs.Results.{result_line}
use Rattle.av_compile.specs.Mapped.{IsMapped}
use Rattle.av_compile.specs.Headline.{Headline}
use Rattle.av_commands.specs.Refusals.{data_reason}
use Rattle.av_commands.specs.Tables.{RefusesTable}
use Rattle.av_wave.specs.Simulated.{run_lines}
use Rattle.av_commands.specs.Shown.{IsFedRun}

-- ---- refusals

-- there is no mark, or `emit` refuses the text before it, or what follows it is no data for the text's inputs
pub data RefusesRun (sizes : List Size) (bits box : ℕ) (bytes reason : List ℕ) : Type 0 where
  no_mark : HasNoMark bytes → reason ≡ codes "no mark" → RefusesRun sizes bits box bytes reason
  bad_system : {before rest : List ℕ} {first : ℕ} → IsDivided bytes before rest first → RefusesTable sizes bits box before reason → RefusesRun sizes bits box bytes reason
  bad_data : {before rest : List ℕ} {first : ℕ} {timed : Timed} {cells : Cells} (fault : DataFault) → IsDivided bytes before rest first → IsMapped before sizes bits box timed cells
      → IsInputFault (view_system timed.flat) first rest fault → reason ≡ data_reason fault → RefusesRun sizes bits box bytes reason

-- ---- what is computed

-- a plan of the text before the mark, and the words of its inputs that the lines behind it spell
pub record HasData (sizes : List Size) (bits box : ℕ) (bytes : List ℕ) (timed : Timed) (cells : Cells) (plan : Plan) (inputs : Assignment) : Type 0 where
  pub before : List ℕ
  pub rest : List ℕ
  pub first : ℕ
  pub divided : IsDivided bytes before rest first
  pub mapped : IsMapped before sizes bits box timed cells
  pub computes : Headline before sizes bits box timed cells plan
  pub spelled : SpellsInputs (view_system timed.flat) rest inputs
  pub are_inputs : AreInputs (instance_of computes.system sizes bits) inputs

-- these words are those of the listed points in a solution
abbrev pub AreSolved : Assignment → List Entry → List ℕ → Type 0
AreSolved solution lines words = map (λ line. solution line.variable line.point) lines ≡ map Some words

-- ---- `run`

-- the line's point is one of an output
abbrev pub is_result : Instance → Entry → Bool
is_result i line = is_declared i.sizes i.system.outputs line.variable line.point

-- of lines that list points, with a word for each, the results of those that pass the test
abbrev pub results : (Entry → Bool) → List Entry → List ℕ → List ℕ
results is [] words = []
results is (line ∷ lines) [] = []
results is (line ∷ lines) (word ∷ words) = (if is line then result_line line.variable line.point word else []) ++ results is lines words

-- the solution's word of each point of each output, by output and point as the listing has them
pub record GivesResults (sizes : List Size) (bits box : ℕ) (bytes out : List ℕ) : Type 0 where
  pub timed : Timed
  pub cells : Cells
  pub plan : Plan
  pub inputs : Assignment
  pub has : HasData sizes bits box bytes timed cells plan inputs
  pub solution : Assignment
  pub solves : IsSolution (instance_of has.computes.system sizes bits) inputs solution
  pub words : List ℕ
  pub solved : AreSolved solution plan.listing.ats words
  pub lines : out ≡ results (is_result (instance_of has.computes.system sizes bits)) plan.listing.ats words

-- ---- `trace`

-- the text of the plan, a line `%%`, and the lines of the run of its flat design over the cycles of its array
pub record GivesTrace (sizes : List Size) (bits box : ℕ) (bytes out : List ℕ) : Type 0 where
  pub timed : Timed
  pub cells : Cells
  pub plan : Plan
  pub inputs : Assignment
  pub has : HasData sizes bits box bytes timed cells plan inputs
  pub run : Run
  pub clocked : IsFedRun (flat_of plan) inputs cells.cycles run
  pub lines : out ≡ text2 plan ++ codes "%%\n" ++ run_lines (flat_module plan) run.in_cycle cells.cycles
