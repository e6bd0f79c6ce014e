-- What `stream` refuses, and what it writes.
use Rattle.std.specs.Prelude.{◌≡◌, ℕ, ◌+◌, ◌-◌, ◌*◌, ◌<◌, ◌≤◌, List, ◌++◌, length, All, Some, slice_get, codes, decimal}
use Rattle.av_tree.specs.Trees.{System}
use Rattle.av_tree.specs.Grammar.{IsProgramText}
use Rattle.av_tree.specs.Counts.{Instance}
use Rattle.av_tree.specs.Values.{Assignment}
use Rattle.av_tree.specs.Solutions.{AreInputs, IsSolution, HasOneSolution}
use Rattle.av_flat.specs.declared.timed.Timed.{Timed}
use Rattle.av_flat.specs.Trees.{FlatSystem, view_system}
use Rattle.av_names.specs.declared.size.Size.{Size}
use Rattle.av_names.specs.Sizes.{instance_of}
use Rattle.av_net.specs.declared.design.Design.{Design}
use Rattle.av_net.specs.Clocked.{Stream, Run, IsRun}
use Rattle.av_net.specs.Shown.{Values}
use Rattle.av_net.specs.Flat.{flat_of, flat_module}
use Rattle.av_space.specs.declared.cells.Cells.{Cells}
use Rattle.av_data.specs.declared.fault.DataFault.{DataFault}
use Rattle.av_data.specs.declared.sets.DataSet.{DataSet}
use Rattle.av_data.specs.Divisions.{IsDivided, HasNoMark}
use Rattle.av_data.specs.Data.{SpellsInputs, IsInputFault}
use Rattle.av_data.specs.Sets.{AreSets}
use Rattle.av_compile.specs.Mapped.{IsMapped}
use Rattle.av_build.specs.Later.{later_lines}
use Rattle.av_stream.specs.declared.building.Streamed.{Streamed}
use Rattle.av_stream.specs.Periods.{HasPeriod}
use Rattle.av_stream.specs.Streams.{ShowsEach}
use Rattle.av_stream.specs.StreamPlans.{IsStreamOf}
use Rattle.av_stream.specs.StreamTexts.{stream_text}
use Rattle.av_commands.specs.Refusals.{data_reason}
use Rattle.av_commands.specs.Tables.{RefusesTable}
use Rattle.av_wave.specs.Simulated.{run_lines}
use Rattle.av_commands.specs.Shown.{IsIdle}

-- ---- how long

-- the cycles of one problem, and a period for each further one
abbrev pub stream_cycles : ℕ → ℕ → ℕ → ℕ
stream_cycles cycles period count = cycles + period * (count - 1)

abbrev pub cycles_reason : ℕ → List ℕ
cycles_reason n = codes "stream cycles " ++ decimal n

-- ---- refusals

-- the text before the first mark has this array with this period, and these data sets stand behind it
pub record HasSets (sizes : List Size) (bits box : ℕ) (bytes : List ℕ) (timed : Timed) (cells : Cells) (period : ℕ) (sets : List DataSet) : Type 0 where
  pub before : List ℕ
  pub rest : List ℕ
  pub first : ℕ
  pub divided : IsDivided bytes before rest first
  pub mapped : IsMapped before sizes bits box timed cells
  pub has_period : HasPeriod timed cells period
  pub are_sets : AreSets rest first sets

-- the lines of the set spell no words of the inputs
abbrev pub IsBadSet : FlatSystem → DataSet → DataFault → Type 0
IsBadSet s set fault = IsInputFault s set.first_line set.bytes.now fault

-- the set with this number has this fault, and none before it has one
pub record IsFirstBadSet (s : FlatSystem) (sets : List DataSet) (fault : DataFault) : Type 0 where
  pub number : ℕ
  pub set : DataSet
  pub is_set : slice_get sets number ≡ Some set
  pub is_bad : IsBadSet s set fault
  pub none_before : (k : ℕ) (other : DataSet) (f : DataFault) → k < number → slice_get sets k ≡ Some other → IsBadSet s other f → ⊥

-- there is no mark, or `emit` refuses the text before it, or the run on all sets is too long, or some set is no data for the text's inputs
pub data RefusesStream (sizes : List Size) (bits box : ℕ) (bytes reason : List ℕ) : Type 0 where
  no_mark : HasNoMark bytes → reason ≡ codes "no mark" → RefusesStream sizes bits box bytes reason
  bad_system : {before rest : List ℕ} {first : ℕ} → IsDivided bytes before rest first → RefusesTable sizes bits box before reason → RefusesStream sizes bits box bytes reason
  too_long : {timed : Timed} {cells : Cells} {period : ℕ} {sets : List DataSet} → HasSets sizes bits box bytes timed cells period sets
      → 4096 < stream_cycles cells.cycles period (length sets) → reason ≡ cycles_reason (stream_cycles cells.cycles period (length sets)) → RefusesStream sizes bits box bytes reason
  bad_data : {timed : Timed} {cells : Cells} {period : ℕ} {sets : List DataSet} (fault : DataFault) → HasSets sizes bits box bytes timed cells period sets
      → stream_cycles cells.cycles period (length sets) ≤ 4096 → IsFirstBadSet (view_system timed.flat) sets fault → reason ≡ data_reason fault → RefusesStream sizes bits box bytes reason

-- ---- what is presented

-- no line of any of so many problems presents a point at this port in this cycle
abbrev pub IsIdleEach : Design → ℕ → ℕ → ℕ → List ℕ → Type 0
IsIdleEach d period count c port = (b : ℕ) → b < count → IsIdle (later_lines (b * period) d.listing.ins) c port

-- the ports carry in the cycle of each `in` line of each problem the word of its point, and 0 everywhere else and at the reset edge
pub record IsFedEach (d : Design) (period : ℕ) (xs : List Values) (stream : Stream) : Type 0 where
  pub on_reset : All (λ port. stream.on_reset port.name ≡ 0) d.module.inputs
  pub listed : (b : ℕ) (x : Values) → slice_get xs b ≡ Some x → All (λ line. Some (stream.in_cycle line.cycle line.wire) ≡ x line.variable line.point) (later_lines (b * period) d.listing.ins)
  pub idle : (c : ℕ) → All (λ port. IsIdleEach d period (length xs) c port.name → stream.in_cycle c port.name ≡ 0) d.module.inputs

-- the run of n cycles whose ports carry that, and whose registers are 0 before the reset edge
pub record IsFedEachRun (d : Design) (period : ℕ) (xs : List Values) (n : ℕ) (run : Run) : Type 0 where
  pub stream : Stream
  pub fed : IsFedEach d period xs stream
  pub powered : All (λ port. run.before port.name ≡ 0) d.module.registers
  pub clocked : IsRun d.module n stream run

-- ---- what is computed

-- each of these is the solution for the inputs with its number
pub record AreSolutionsOf (i : Instance) (xs us : List Assignment) : Type 0 where
  pub one_each : length us ≡ length xs
  pub each : (b : ℕ) (x u : Assignment) → slice_get xs b ≡ Some x → slice_get us b ≡ Some u → IsSolution i x u

-- the bytes are a program text with this tree and no other, whose equations have one solution for every input, and for every list of inputs
-- the flat design of the plan shows the solutions with the period
pub record StreamsText (bytes : List ℕ) (words : List Size) (bits : ℕ) (streamed : Streamed) : Type 0 where
  pub system : System
  pub program : IsProgramText bytes system
  pub only : (other : System) → IsProgramText bytes other → other ≡ system
  pub one_solution : (x : Assignment) → AreInputs (instance_of system words bits) x → HasOneSolution (instance_of system words bits) x
  pub shows : (xs us : List Assignment) → All (AreInputs (instance_of system words bits)) xs → AreSolutionsOf (instance_of system words bits) xs us → ShowsEach (flat_of streamed.plan) streamed.period xs us

-- the sets spell these words of the inputs, each in its turn
pub record AreSpelled (s : FlatSystem) (sets : List DataSet) (inputs : List Assignment) : Type 0 where
  pub one_each : length inputs ≡ length sets
  pub each : (b : ℕ) (set : DataSet) (x : Assignment) → slice_get sets b ≡ Some set → slice_get inputs b ≡ Some x → SpellsInputs s set.bytes.now x

-- the text of a plan that takes problem after problem, a line `%%`, and the lines of the run of its flat design on all sets
pub record GivesStream (sizes : List Size) (bits box : ℕ) (bytes out : List ℕ) : Type 0 where
  pub timed : Timed
  pub cells : Cells
  pub streamed : Streamed
  pub sets : List DataSet
  pub has : HasSets sizes bits box bytes timed cells streamed.period sets
  pub short : stream_cycles cells.cycles streamed.period (length sets) ≤ 4096
  pub is_stream : IsStreamOf timed cells streamed
  pub streams : StreamsText has.before sizes bits streamed
  pub inputs : List Assignment
  pub spelled : AreSpelled (view_system timed.flat) sets inputs
  pub run : Run
  pub clocked : IsFedEachRun (flat_of streamed.plan) streamed.period inputs (stream_cycles cells.cycles streamed.period (length sets)) run
  pub lines : out ≡ stream_text streamed ++ codes "%%\n" ++ run_lines (flat_module streamed.plan) run.in_cycle (stream_cycles cells.cycles streamed.period (length sets))
