-- What `stream` refuses and writes, with what it has at hand: the words that give the sizes, the array, and the data sets.
use Rattle.std.specs.Prelude.{◌≡◌, ℕ, ◌+◌, ◌*◌, ◌<◌, ◌≤◌, ◌++◌, List, length, AllPairs, Contains, Some, slice_get, codes}
use Rattle.av_tree.specs.Values.{Assignment}
use Rattle.av_flat.specs.Trees.{view_system}
use Rattle.av_net.specs.declared.design.Design.{Design}
use Rattle.av_net.specs.declared.design.Entry.{Entry}
use Rattle.av_net.specs.Names.{names_of}
use Rattle.av_net.specs.Shown.{Values}
use Rattle.av_net.specs.Clocked.{Run}
use Rattle.av_net.specs.Flat.{flat_of, flat_module}
use Rattle.av_data.specs.declared.fault.DataFault.{DataFault}
use Rattle.av_data.specs.declared.sets.DataSet.{DataSet}
use Rattle.av_data.specs.declared.stimulus.Given.{Given}
use Rattle.av_data.specs.Sets.{AreSets}
use Rattle.av_data.specs.Stimuli.{IsBefore}
use Rattle.av_compile.specs.declared.mapping.MappedSystem.{MappedSystem}
use Rattle.av_stream.specs.declared.building.Streamed.{Streamed}
use Rattle.av_stream.specs.Periods.{HasPeriod}
use Rattle.av_stream.specs.StreamPlans.{IsStreamOf}
use Rattle.av_stream.specs.StreamTexts.{stream_text}
use Rattle.av_commands.specs.Refusals.{data_reason}
use Rattle.av_wave.specs.Simulated.{run_lines}
use Rattle.av_commands.specs.Streams.{stream_cycles, cycles_reason, IsFirstBadSet, AreSpelled, IsFedEachRun}

-- ---- with the array

-- the run on all sets is too long, or some set has a fault
pub data RefusesSets (a : MappedSystem) (first : ℕ) (bytes reason : List ℕ) : Type 0 where
  too_long : {period : ℕ} {sets : List DataSet} → HasPeriod a.timed a.cells period → AreSets bytes first sets
      → 4096 < stream_cycles a.cells.cycles period (length sets) → reason ≡ cycles_reason (stream_cycles a.cells.cycles period (length sets)) → RefusesSets a first bytes reason
  bad_data : {period : ℕ} {sets : List DataSet} (fault : DataFault) → HasPeriod a.timed a.cells period → AreSets bytes first sets
      → stream_cycles a.cells.cycles period (length sets) ≤ 4096 → IsFirstBadSet (view_system a.timed.flat) sets fault → reason ≡ data_reason fault → RefusesSets a first bytes reason

-- the text of the plan, and the run of its flat design on the words of all problems
pub record IsStreamed (cycles : ℕ) (streamed : Streamed) (inputs : List Assignment) (out : List ℕ) : Type 0 where
  pub run : Run
  pub clocked : IsFedEachRun (flat_of streamed.plan) streamed.period inputs cycles run
  pub lines : out ≡ stream_text streamed ++ codes "%%\n" ++ run_lines (flat_module streamed.plan) run.in_cycle cycles

pub record IsStreamOn (a : MappedSystem) (cycles : ℕ) (inputs : List Assignment) (out : List ℕ) : Type 0 where
  pub streamed : Streamed
  pub is_stream : IsStreamOf a.timed a.cells streamed
  pub streams : IsStreamed cycles streamed inputs out

pub record GivesSets (a : MappedSystem) (first : ℕ) (bytes out : List ℕ) : Type 0 where
  pub streamed : Streamed
  pub is_stream : IsStreamOf a.timed a.cells streamed
  pub sets : List DataSet
  pub are_sets : AreSets bytes first sets
  pub short : stream_cycles a.cells.cycles streamed.period (length sets) ≤ 4096
  pub inputs : List Assignment
  pub spelled : AreSpelled (view_system a.timed.flat) sets inputs
  pub streams : IsStreamed (stream_cycles a.cells.cycles streamed.period (length sets)) streamed inputs out

-- ---- what is presented

-- the value that a line gives for the problem that begins so many cycles later
pub record IsOfLater (d : Design) (x : Values) (start : ℕ) (line : Entry) (g : Given) : Type 0 where
  pub cycle : g.cycle ≡ line.cycle + start
  pub port : slice_get (names_of d.module.inputs) g.port ≡ Some line.wire
  pub word : x line.variable line.point ≡ Some g.value

-- the value is that of a line for one of the problems
pub record IsOfProblem (d : Design) (period : ℕ) (xs : List Values) (g : Given) : Type 0 where
  pub problem : ℕ
  pub x : Values
  pub is_problem : slice_get xs problem ≡ Some x
  pub number : ℕ
  pub line : Entry
  pub is_line : slice_get d.listing.ins number ≡ Some line
  pub is : IsOfLater d x (problem * period) line g

-- the values of all lines for all problems, in ascending order of cycle and port
pub record AreOfProblems (d : Design) (period : ℕ) (xs : List Values) (values : List Given) : Type 0 where
  pub ascending : AllPairs IsBefore values
  pub each : (g : Given) → Contains values g → IsOfProblem d period xs g
  pub all : (b k : ℕ) (x : Values) (line : Entry) → slice_get xs b ≡ Some x → slice_get d.listing.ins k ≡ Some line → (g : Given) × Contains values g × IsOfLater d x (b * period) line g
