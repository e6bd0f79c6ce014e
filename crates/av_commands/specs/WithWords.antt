-- What commands refuse and write, with the words at hand that give the sizes.
use Rattle.std.specs.Prelude.{ℕ, List}
use Rattle.av_names.specs.declared.size.Size.{Size}
use Rattle.av_compile.specs.Mapped.{IsMapped}
use Rattle.av_commands.specs.SizeWords.{GiveSizes}
use Rattle.av_commands.specs.Checks.{RefusesCheck, GivesCheck}
use Rattle.av_commands.specs.Schedules.{RefusesSchedule, GivesSchedule}
use Rattle.av_commands.specs.Tables.{RefusesTable, GivesTable}
use Rattle.av_commands.specs.Emits.{GivesEmit}
use Rattle.av_commands.specs.Bests.{RefusesBest, GivesBest}
use Rattle.av_commands.specs.Eights.{RefusesEight, GivesEight}
use Rattle.av_commands.specs.declared.runs.Report.{Report}
use Rattle.av_commands.specs.declared.runs.Report.TheVariants.{Results, Trace, Wave}
use Rattle.av_commands.specs.Runs.{RefusesRun, GivesResults, GivesTrace}
use Rattle.av_commands.specs.Waves.{GivesDump}
use Rattle.av_commands.specs.Streams.{RefusesStream, GivesStream}

pub record RefusesWith (words : List (List ℕ)) (bits : ℕ) (bytes reason : List ℕ) : Type 0 where
  pub sizes : List Size
  pub give : GiveSizes words sizes
  pub refuses : RefusesCheck sizes bits bytes reason

pub record GivesWith (words : List (List ℕ)) (bits : ℕ) (bytes out : List ℕ) : Type 0 where
  pub sizes : List Size
  pub give : GiveSizes words sizes
  pub gives : GivesCheck sizes bits bytes out

pub record RefusesScheduleWith (words : List (List ℕ)) (bits box : ℕ) (bytes reason : List ℕ) : Type 0 where
  pub sizes : List Size
  pub give : GiveSizes words sizes
  pub refuses : RefusesSchedule sizes bits box bytes reason

pub record GivesScheduleWith (words : List (List ℕ)) (bits box : ℕ) (bytes out : List ℕ) : Type 0 where
  pub sizes : List Size
  pub give : GiveSizes words sizes
  pub gives : GivesSchedule sizes bits box bytes out

pub record RefusesTableWith (words : List (List ℕ)) (bits box : ℕ) (bytes reason : List ℕ) : Type 0 where
  pub sizes : List Size
  pub give : GiveSizes words sizes
  pub refuses : RefusesTable sizes bits box bytes reason

pub record GivesTableWith (words : List (List ℕ)) (bits box : ℕ) (bytes out : List ℕ) : Type 0 where
  pub sizes : List Size
  pub give : GiveSizes words sizes
  pub gives : GivesTable sizes bits box bytes out

abbrev pub RefusesEmitWith : List (List ℕ) → ℕ → ℕ → List ℕ → List ℕ → Type 0
RefusesEmitWith words bits box bytes reason = RefusesTableWith words bits box bytes reason

-- what `emit` writes, of a text in which no step finds a fault
pub record GivesMapped (sizes : List Size) (bits box : ℕ) (bytes out : List ℕ) : Type 0 where
  pub gives : GivesEmit sizes bits box bytes out
  pub mapped : IsMapped bytes sizes bits box gives.timed gives.cells

pub record GivesEmitWith (words : List (List ℕ)) (bits box : ℕ) (bytes out : List ℕ) : Type 0 where
  pub sizes : List Size
  pub give : GiveSizes words sizes
  pub gives : GivesMapped sizes bits box bytes out

pub record RefusesBestWith (words : List (List ℕ)) (bits box : ℕ) (bytes reason : List ℕ) : Type 0 where
  pub sizes : List Size
  pub give : GiveSizes words sizes
  pub refuses : RefusesBest sizes bits box bytes reason

pub record GivesBestWith (words : List (List ℕ)) (bits box : ℕ) (bytes out : List ℕ) : Type 0 where
  pub sizes : List Size
  pub give : GiveSizes words sizes
  pub gives : GivesBest sizes bits box bytes out

pub record RefusesEightWith (words : List (List ℕ)) (bits box : ℕ) (bytes reason : List ℕ) : Type 0 where
  pub sizes : List Size
  pub give : GiveSizes words sizes
  pub refuses : RefusesEight sizes bits box bytes reason

pub record GivesEightWith (words : List (List ℕ)) (bits box : ℕ) (bytes out : List ℕ) : Type 0 where
  pub sizes : List Size
  pub give : GiveSizes words sizes
  pub gives : GivesEight sizes bits box bytes out

abbrev pub GivesReport : Report → List Size → ℕ → ℕ → List ℕ → List ℕ → Type 0
GivesReport Results sizes bits box bytes out = GivesResults sizes bits box bytes out
GivesReport Trace sizes bits box bytes out = GivesTrace sizes bits box bytes out
GivesReport Wave sizes bits box bytes out = GivesDump sizes bits box bytes out

pub record RefusesRunWith (words : List (List ℕ)) (bits box : ℕ) (bytes reason : List ℕ) : Type 0 where
  pub sizes : List Size
  pub give : GiveSizes words sizes
  pub refuses : RefusesRun sizes bits box bytes reason

pub record GivesReportWith (report : Report) (words : List (List ℕ)) (bits box : ℕ) (bytes out : List ℕ) : Type 0 where
  pub sizes : List Size
  pub give : GiveSizes words sizes
  pub gives : GivesReport report sizes bits box bytes out

pub record RefusesStreamWith (words : List (List ℕ)) (bits box : ℕ) (bytes reason : List ℕ) : Type 0 where
  pub sizes : List Size
  pub give : GiveSizes words sizes
  pub refuses : RefusesStream sizes bits box bytes reason

pub record GivesStreamWith (words : List (List ℕ)) (bits box : ℕ) (bytes out : List ℕ) : Type 0 where
  pub sizes : List Size
  pub give : GiveSizes words sizes
  pub gives : GivesStream sizes bits box bytes out
