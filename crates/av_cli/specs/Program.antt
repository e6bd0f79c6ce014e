-- What the program reads and writes for each status. What a source tells of the bytes left in it stands
-- as `left` before the call and as `left'` after it.
use Rattle.std.specs.Prelude.{◌≡◌, ◌⊎◌, ℕ, ◌<◌, ◌≤◌, List, codes, length, Option, IfSome}
use Rattle.av_base.specs.Outside.{Takes, Adds, AddsPrefix, IsAtEnd}
use Rattle.av_names.specs.declared.size.Size.{Size}
use Rattle.av_compile.specs.Mapped.{IsMapped}
use Rattle.av_commands.specs.declared.status.Status.{Status}
use Rattle.av_commands.specs.declared.status.Status.TheVariants.{Done, Refused, Words, ReadFault, WriteFault, Memory}
use Rattle.av_cli.specs.Commands.{IsCheck, IsSchedule, IsTable, IsEmit, IsRun, IsTrace, IsBest, IsStream, AsksWave, IsRun8, IsSim, IsUnwave, IsDemo, TakeInput, AskDemo, AreRead, usage_line}
use Rattle.av_commands.specs.Refusals.{refusal_line}
use Rattle.av_commands.specs.Checks.{RefusesCheck, GivesCheck}
use Rattle.av_commands.specs.Schedules.{RefusesSchedule, GivesSchedule}
use Rattle.av_commands.specs.Tables.{RefusesTable, GivesTable}
use Rattle.av_commands.specs.Emits.{GivesEmit}
use Rattle.av_commands.specs.Sims.{RefusesSim, GivesSim}
use Rattle.av_commands.specs.Runs.{RefusesRun, GivesResults, GivesTrace}
use Rattle.av_commands.specs.Bests.{RefusesBest, GivesBest}
use Rattle.av_commands.specs.Streams.{RefusesStream, GivesStream}
use Rattle.av_commands.specs.Waves.{GivesDump, RefusesUnwave, GivesUnwave}
use Rattle.av_commands.specs.Eights.{RefusesEight, GivesEight}
use Rattle.av_commands.specs.Demos.{GivesDemo}

-- ---- refusals, in their order

-- the command of these words refuses these bytes of a source for this reason; `demo` refuses none
abbrev pub IsRefused : List (List ℕ) → List ℕ → List ℕ → Type 0
IsRefused words bytes reason =
    ((1048576 < length bytes) × TakeInput words × (reason ≡ codes "too long"))
    ⊎ ((length bytes ≤ 1048576) × ((bits : ℕ) × (box : ℕ) × (sizes : List Size) × IsEmit words bits box sizes × RefusesTable sizes bits box bytes reason))
    ⊎ ((length bytes ≤ 1048576) × IsSim words × RefusesSim bytes reason)
    ⊎ ((length bytes ≤ 1048576) × ((bits : ℕ) × (sizes : List Size) × IsCheck words bits sizes × RefusesCheck sizes bits bytes reason))
    ⊎ ((length bytes ≤ 1048576) × ((bits : ℕ) × (box : ℕ) × (sizes : List Size) × IsSchedule words bits box sizes × RefusesSchedule sizes bits box bytes reason))
    ⊎ ((length bytes ≤ 1048576) × ((bits : ℕ) × (box : ℕ) × (sizes : List Size) × IsTable words bits box sizes × RefusesTable sizes bits box bytes reason))
    ⊎ ((length bytes ≤ 1048576) × ((bits : ℕ) × (box : ℕ) × (sizes : List Size) × IsRun words bits box sizes × RefusesRun sizes bits box bytes reason))
    ⊎ ((length bytes ≤ 1048576) × ((bits : ℕ) × (box : ℕ) × (sizes : List Size) × IsTrace words bits box sizes × RefusesRun sizes bits box bytes reason))
    ⊎ ((length bytes ≤ 1048576) × ((bits : ℕ) × (box : ℕ) × (sizes : List Size) × IsBest words bits box sizes × RefusesBest sizes bits box bytes reason))
    ⊎ ((length bytes ≤ 1048576) × ((bits : ℕ) × (box : ℕ) × (sizes : List Size) × IsStream words bits box sizes × RefusesStream sizes bits box bytes reason))
    ⊎ ((length bytes ≤ 1048576) × ((bits : ℕ) × (box : ℕ) × (sizes : List Size) × AsksWave words bits box sizes × RefusesRun sizes bits box bytes reason))
    ⊎ ((length bytes ≤ 1048576) × ((bits : ℕ) × (box : ℕ) × (sizes : List Size) × IsRun8 words bits box sizes × RefusesEight sizes bits box bytes reason))
    ⊎ ((length bytes ≤ 1048576) × IsUnwave words × RefusesUnwave bytes reason)

-- ---- what is written

-- the words are not read: the usage line, and the source is as it was
pub record WritesUsage (words : List (List ℕ)) (left left' : Option (List ℕ)) (out : List ℕ) : Type 0 where
  pub unread : AreRead words → ⊥
  pub untouched : left' ≡ left
  pub line : out ≡ usage_line

-- a refusal: its line, for what was taken from the source
pub record WritesRefusal (words : List (List ℕ)) (left left' : Option (List ℕ)) (out : List ℕ) : Type 0 where
  pub read : TakeInput words
  pub taken : List ℕ
  pub takes : Takes left left' taken
  pub whole : length taken ≤ 1048576 → IsAtEnd left'
  pub reason : List ℕ
  pub refused : IsRefused words taken reason
  pub line : out ≡ refusal_line reason

-- the output of `emit`: the text of a plan whose flat design computes what the source gave up to its end, in which no step finds a fault
pub record WritesDesign (words : List (List ℕ)) (left left' : Option (List ℕ)) (out : List ℕ) : Type 0 where
  pub bits : ℕ
  pub box : ℕ
  pub sizes : List Size
  pub read : IsEmit words bits box sizes
  pub taken : List ℕ
  pub takes : Takes left left' taken
  pub whole : IsAtEnd left'
  pub within : length taken ≤ 1048576
  pub gives : GivesEmit sizes bits box taken out
  pub mapped : IsMapped taken sizes bits box gives.timed gives.cells

-- the output of `sim`: the run of the module under the stimulus that the source gave up to its end
pub record WritesRun (words : List (List ℕ)) (left left' : Option (List ℕ)) (out : List ℕ) : Type 0 where
  pub read : IsSim words
  pub taken : List ℕ
  pub takes : Takes left left' taken
  pub whole : IsAtEnd left'
  pub within : length taken ≤ 1048576
  pub gives : GivesSim taken out

-- the output of `check`: that the text which the source gave up to its end has each declared point just once
pub record WritesVerdict (words : List (List ℕ)) (left left' : Option (List ℕ)) (out : List ℕ) : Type 0 where
  pub bits : ℕ
  pub sizes : List Size
  pub read : IsCheck words bits sizes
  pub taken : List ℕ
  pub takes : Takes left left' taken
  pub whole : IsAtEnd left'
  pub within : length taken ≤ 1048576
  pub gives : GivesCheck sizes bits taken out

-- the output of `schedule`: the lines of the first schedule of the text which the source gave up to its end
pub record WritesSchedule (words : List (List ℕ)) (left left' : Option (List ℕ)) (out : List ℕ) : Type 0 where
  pub bits : ℕ
  pub box : ℕ
  pub sizes : List Size
  pub read : IsSchedule words bits box sizes
  pub taken : List ℕ
  pub takes : Takes left left' taken
  pub whole : IsAtEnd left'
  pub within : length taken ≤ 1048576
  pub gives : GivesSchedule sizes bits box taken out

-- the output of `table`: the lines of the array of the text which the source gave up to its end
pub record WritesTable (words : List (List ℕ)) (left left' : Option (List ℕ)) (out : List ℕ) : Type 0 where
  pub bits : ℕ
  pub box : ℕ
  pub sizes : List Size
  pub read : IsTable words bits box sizes
  pub taken : List ℕ
  pub takes : Takes left left' taken
  pub whole : IsAtEnd left'
  pub within : length taken ≤ 1048576
  pub gives : GivesTable sizes bits box taken out

-- the output of `run`: the solution's words of the outputs, for the text and the data that the source gave up to its end
pub record WritesResults (words : List (List ℕ)) (left left' : Option (List ℕ)) (out : List ℕ) : Type 0 where
  pub bits : ℕ
  pub box : ℕ
  pub sizes : List Size
  pub read : IsRun words bits box sizes
  pub taken : List ℕ
  pub takes : Takes left left' taken
  pub whole : IsAtEnd left'
  pub within : length taken ≤ 1048576
  pub gives : GivesResults sizes bits box taken out

-- the output of `trace`: a plan of the text that the source gave, and the run of its flat design on the data up to the source's end
pub record WritesTrace (words : List (List ℕ)) (left left' : Option (List ℕ)) (out : List ℕ) : Type 0 where
  pub bits : ℕ
  pub box : ℕ
  pub sizes : List Size
  pub read : IsTrace words bits box sizes
  pub taken : List ℕ
  pub takes : Takes left left' taken
  pub whole : IsAtEnd left'
  pub within : length taken ≤ 1048576
  pub gives : GivesTrace sizes bits box taken out

-- the output of `best`: the lines of the least schedule of the text which the source gave up to its end, and its length
pub record WritesBest (words : List (List ℕ)) (left left' : Option (List ℕ)) (out : List ℕ) : Type 0 where
  pub bits : ℕ
  pub box : ℕ
  pub sizes : List Size
  pub read : IsBest words bits box sizes
  pub taken : List ℕ
  pub takes : Takes left left' taken
  pub whole : IsAtEnd left'
  pub within : length taken ≤ 1048576
  pub gives : GivesBest sizes bits box taken out

-- the output of `stream`: a plan of the text that the source gave, and the run of its flat design on the data sets up to the source's end
pub record WritesStream (words : List (List ℕ)) (left left' : Option (List ℕ)) (out : List ℕ) : Type 0 where
  pub bits : ℕ
  pub box : ℕ
  pub sizes : List Size
  pub read : IsStream words bits box sizes
  pub taken : List ℕ
  pub takes : Takes left left' taken
  pub whole : IsAtEnd left'
  pub within : length taken ≤ 1048576
  pub gives : GivesStream sizes bits box taken out

-- the output of `wave`: the dump of the run of a plan's flat design on the data up to the source's end
pub record WritesDump (words : List (List ℕ)) (left left' : Option (List ℕ)) (out : List ℕ) : Type 0 where
  pub bits : ℕ
  pub box : ℕ
  pub sizes : List Size
  pub read : AsksWave words bits box sizes
  pub taken : List ℕ
  pub takes : Takes left left' taken
  pub whole : IsAtEnd left'
  pub within : length taken ≤ 1048576
  pub gives : GivesDump sizes bits box taken out

-- the output of `run8`: for each set of the data up to the source's end what `run` writes for the text and that set
pub record WritesEight (words : List (List ℕ)) (left left' : Option (List ℕ)) (out : List ℕ) : Type 0 where
  pub bits : ℕ
  pub box : ℕ
  pub sizes : List Size
  pub read : IsRun8 words bits box sizes
  pub taken : List ℕ
  pub takes : Takes left left' taken
  pub whole : IsAtEnd left'
  pub within : length taken ≤ 1048576
  pub gives : GivesEight sizes bits box taken out

-- the output of `unwave`: the cycles of the wave whose dump the source gave up to its end
pub record WritesCycles (words : List (List ℕ)) (left left' : Option (List ℕ)) (out : List ℕ) : Type 0 where
  pub read : IsUnwave words
  pub taken : List ℕ
  pub takes : Takes left left' taken
  pub whole : IsAtEnd left'
  pub within : length taken ≤ 1048576
  pub gives : GivesUnwave taken out

-- the output of `demo`: the totals of an array and the sum of what it computes; the source is as it was
pub record WritesDemo (words : List (List ℕ)) (left left' : Option (List ℕ)) (out : List ℕ) : Type 0 where
  pub bits : ℕ
  pub box : ℕ
  pub k : ℕ
  pub read : IsDemo words bits box k
  pub untouched : left' ≡ left
  pub gives : GivesDemo k bits box out

-- what a command writes where it is done
abbrev pub WritesOutput : List (List ℕ) → Option (List ℕ) → Option (List ℕ) → List ℕ → Type 0
WritesOutput words left left' out =
    WritesDesign words left left' out
    ⊎ WritesRun words left left' out
    ⊎ WritesVerdict words left left' out
    ⊎ WritesSchedule words left left' out
    ⊎ WritesTable words left left' out
    ⊎ WritesResults words left left' out
    ⊎ WritesTrace words left left' out
    ⊎ WritesBest words left left' out
    ⊎ WritesStream words left left' out
    ⊎ WritesDump words left left' out
    ⊎ WritesEight words left left' out
    ⊎ WritesCycles words left left' out
    ⊎ WritesDemo words left left' out

-- what a status writes, where it writes something whole
abbrev pub Writes : Status → List (List ℕ) → Option (List ℕ) → Option (List ℕ) → List ℕ → Type 0
Writes Words words left left' out = WritesUsage words left left' out
Writes Refused words left left' out = WritesRefusal words left left' out
Writes Done words left left' out = WritesOutput words left left' out
Writes ReadFault words left left' out = ⊥
Writes WriteFault words left left' out = ⊥
Writes Memory words left left' out = ⊥

-- it was added to the sink
abbrev pub AddsWhole : Status → List (List ℕ) → Option (List ℕ) → Option (List ℕ) → Option (List ℕ) → Option (List ℕ) → Type 0
AddsWhole status words left left' held held' = (out : List ℕ) × Writes status words left left' out × Adds held held' out

-- a prefix of what some status writes was added
abbrev pub AddsFront : List (List ℕ) → Option (List ℕ) → Option (List ℕ) → Option (List ℕ) → Option (List ℕ) → Type 0
AddsFront words left left' held held' = (status : Status) × (out : List ℕ) × Writes status words left left' out × AddsPrefix held held' out

-- ---- completeness

abbrev pub HasRefusal : List (List ℕ) → List ℕ → Type 0
HasRefusal words bytes = (reason : List ℕ) × IsRefused words bytes reason

-- with no fault, the status is that of the words and of the source's bytes, or out of memory
pub record IsComplete (words : List (List ℕ)) (left : Option (List ℕ)) (status : Status) : Type 0 where
  pub unread : (AreRead words → ⊥) → status ≡ Words
  pub refused : AreRead words → IfSome left (λ bytes. HasRefusal words bytes → (status ≡ Refused) ⊎ (status ≡ Memory))
  pub done : AreRead words → IfSome left (λ bytes. (HasRefusal words bytes → ⊥) → (status ≡ Done) ⊎ (status ≡ Memory))
  -- `demo` refuses nothing, whatever the source has
  pub demo : AskDemo words → (status ≡ Done) ⊎ (status ≡ Memory)
