-- What `run`, `trace` and `wave` make of a compiled text and the lines of its data.
use Rattle.std.specs.Prelude.{◌≡◌, ℕ, ◌++◌, Bool, ◌&&◌, List, codes}
use Rattle.std.specs.List.{list_any}
use Rattle.std.specs.Str.{bytes_eq}
use Rattle.av_tree.specs.Values.{Assignment}
use Rattle.av_flat.specs.declared.flat.Kind.TheVariants as kind
use Rattle.av_flat.specs.declared.timed.Timed.{Timed}
use Rattle.av_flat.specs.Trees.{FlatSystem, Variable, view_system}
use Rattle.av_flat.specs.Signatures.{is_kind}
use Rattle.av_flat.specs.Chained.{IsChained}
use Rattle.av_net.specs.declared.design.Design.{Design}
use Rattle.av_net.specs.declared.plan.Plan.{Plan}
use Rattle.av_net.specs.Clocked.{Run}
use Rattle.av_net.specs.Designs.{IsSoundDesign}
use Rattle.av_net.specs.Presented.{AreApart, HaveFittingWords}
use Rattle.av_net.specs.PlanTexts.{text2}
use Rattle.av_space.specs.declared.cells.Cells.{Cells}
use Rattle.av_data.specs.declared.fault.DataFault.{DataFault}
use Rattle.av_data.specs.Data.{SpellsInputs, IsInputFault}
use Rattle.av_flat.specs.OneSolution.{AreInputs}
use Rattle.av_commands.specs.declared.runs.Report.{Report}
use Rattle.av_commands.specs.declared.runs.Report.TheVariants.{Results, Trace, Wave}
use Rattle.av_commands.specs.Refusals.{data_reason}
use Rattle.av_wave.specs.Simulated.{run_lines}
use Rattle.av_wave.specs.Waves.{Recording}
use Rattle.av_wave.specs.Dumps.{dump_text}
use Rattle.av_wave.specs.Recorded.{IsRecorded}
use Rattle.av_commands.specs.Shown.{AreShown, IsFedRun}
use Rattle.av_commands.specs.Runs.{results}

-- ---- with the compiled text at hand

-- a design that can be clocked on all words of the inputs
pub record IsClockable (timed : Timed) (design : Design) : Type 0 where
  pub chained : IsChained (view_system timed.flat)
  pub sound : IsSoundDesign design
  pub apart : AreApart design.listing.ins
  pub fitting : (x : Assignment) → AreInputs (view_system timed.flat) x → HaveFittingWords design x

-- one of the outputs has this name
abbrev pub is_output_named : List ℕ → Variable → Bool
is_output_named name v = is_kind v.kind kind.Output && bytes_eq v.name name

abbrev pub names_output : FlatSystem → List ℕ → Bool
names_output s name = list_any (is_output_named name) s.variables

pub record RefusesLines (timed : Timed) (first : ℕ) (bytes reason : List ℕ) : Type 0 where
  pub fault : DataFault
  pub is : IsInputFault (view_system timed.flat) first bytes fault
  pub told : reason ≡ data_reason fault

-- of words that the inputs have
pub record AreResultsOf (timed : Timed) (design : Design) (x : Assignment) (out : List ℕ) : Type 0 where
  pub words : List ℕ
  pub shown : AreShown design x words
  pub lines : out ≡ results (λ line. names_output (view_system timed.flat) line.variable) design.listing.ats words

pub record IsTraceOf (cells : Cells) (plan : Plan) (design : Design) (x : Assignment) (out : List ℕ) : Type 0 where
  pub run : Run
  pub clocked : IsFedRun design x cells.cycles run
  pub lines : out ≡ text2 plan ++ codes "%%\n" ++ run_lines design.module run.in_cycle cells.cycles

pub record IsDumpOf (cells : Cells) (design : Design) (x : Assignment) (out : List ℕ) : Type 0 where
  pub run : Run
  pub clocked : IsFedRun design x cells.cycles run
  pub wave : Recording
  pub recorded : IsRecorded design.module run.in_cycle cells.cycles wave
  pub text : out ≡ dump_text wave

abbrev pub IsReport : Report → Timed → Cells → Plan → Design → Assignment → List ℕ → Type 0
IsReport Results timed cells plan design x out = AreResultsOf timed design x out
IsReport Trace timed cells plan design x out = IsTraceOf cells plan design x out
IsReport Wave timed cells plan design x out = IsDumpOf cells design x out

pub record GivesReported (report : Report) (timed : Timed) (cells : Cells) (plan : Plan) (design : Design) (bytes out : List ℕ) : Type 0 where
  pub inputs : Assignment
  pub spelled : SpellsInputs (view_system timed.flat) bytes inputs
  pub are : AreInputs (view_system timed.flat) inputs
  pub reports : IsReport report timed cells plan design inputs out
