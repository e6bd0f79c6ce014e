-- What a command that was read refuses and writes.
use Rattle.std.specs.Prelude.{ℕ, List}
use Rattle.av_names.specs.declared.size.Size.{Size}
use Rattle.av_cli.specs.declared.words.Command.{Command}
use Rattle.av_cli.specs.declared.words.Command.TheVariants.{Check, Schedule, Table, Emit, Run, Trace, Best, Stream, Wave, Run8, Sim, Unwave, Demo}
use Rattle.av_cli.specs.Commands.{IsCheck, IsSchedule, IsTable, IsEmit, IsRun, IsTrace, IsBest, IsStream, AsksWave, IsRun8}
use Rattle.av_commands.specs.Checks.{RefusesCheck, GivesCheck}
use Rattle.av_commands.specs.Schedules.{RefusesSchedule, GivesSchedule}
use Rattle.av_commands.specs.Tables.{RefusesTable, GivesTable}
use Rattle.av_commands.specs.Sims.{RefusesSim, GivesSim}
use Rattle.av_commands.specs.Runs.{RefusesRun, GivesResults, GivesTrace}
use Rattle.av_commands.specs.Bests.{RefusesBest, GivesBest}
use Rattle.av_commands.specs.Streams.{RefusesStream, GivesStream}
use Rattle.av_commands.specs.Eights.{RefusesEight, GivesEight}
use Rattle.av_commands.specs.Waves.{GivesDump, RefusesUnwave, GivesUnwave}
use Rattle.av_commands.specs.Demos.{GivesDemo}
use Rattle.av_commands.specs.WithWords.{GivesMapped}

abbrev pub Refuses : Command → List (List ℕ) → List ℕ → List ℕ → Type 0
Refuses (Check width) words bytes reason = (sizes : List Size) × IsCheck words width.bits sizes × RefusesCheck sizes width.bits bytes reason
Refuses (Schedule width reach) words bytes reason = (sizes : List Size) × IsSchedule words width.bits reach.size sizes × RefusesSchedule sizes width.bits reach.size bytes reason
Refuses (Table width reach) words bytes reason = (sizes : List Size) × IsTable words width.bits reach.size sizes × RefusesTable sizes width.bits reach.size bytes reason
Refuses (Emit width reach) words bytes reason = (sizes : List Size) × IsEmit words width.bits reach.size sizes × RefusesTable sizes width.bits reach.size bytes reason
Refuses (Run width reach) words bytes reason = (sizes : List Size) × IsRun words width.bits reach.size sizes × RefusesRun sizes width.bits reach.size bytes reason
Refuses (Trace width reach) words bytes reason = (sizes : List Size) × IsTrace words width.bits reach.size sizes × RefusesRun sizes width.bits reach.size bytes reason
Refuses (Best width reach) words bytes reason = (sizes : List Size) × IsBest words width.bits reach.size sizes × RefusesBest sizes width.bits reach.size bytes reason
Refuses (Stream width reach) words bytes reason = (sizes : List Size) × IsStream words width.bits reach.size sizes × RefusesStream sizes width.bits reach.size bytes reason
Refuses (Demo width reach k) words bytes reason = ⊥
Refuses Sim words bytes reason = RefusesSim bytes reason
Refuses (Wave width reach) words bytes reason = (sizes : List Size) × AsksWave words width.bits reach.size sizes × RefusesRun sizes width.bits reach.size bytes reason
Refuses (Run8 width reach) words bytes reason = (sizes : List Size) × IsRun8 words width.bits reach.size sizes × RefusesEight sizes width.bits reach.size bytes reason
Refuses Unwave words bytes reason = RefusesUnwave bytes reason

abbrev pub Gives : Command → List (List ℕ) → List ℕ → List ℕ → Type 0
Gives (Check width) words bytes out = (sizes : List Size) × IsCheck words width.bits sizes × GivesCheck sizes width.bits bytes out
Gives (Schedule width reach) words bytes out = (sizes : List Size) × IsSchedule words width.bits reach.size sizes × GivesSchedule sizes width.bits reach.size bytes out
Gives (Table width reach) words bytes out = (sizes : List Size) × IsTable words width.bits reach.size sizes × GivesTable sizes width.bits reach.size bytes out
Gives (Emit width reach) words bytes out = (sizes : List Size) × IsEmit words width.bits reach.size sizes × GivesMapped sizes width.bits reach.size bytes out
Gives (Run width reach) words bytes out = (sizes : List Size) × IsRun words width.bits reach.size sizes × GivesResults sizes width.bits reach.size bytes out
Gives (Trace width reach) words bytes out = (sizes : List Size) × IsTrace words width.bits reach.size sizes × GivesTrace sizes width.bits reach.size bytes out
Gives (Best width reach) words bytes out = (sizes : List Size) × IsBest words width.bits reach.size sizes × GivesBest sizes width.bits reach.size bytes out
Gives (Stream width reach) words bytes out = (sizes : List Size) × IsStream words width.bits reach.size sizes × GivesStream sizes width.bits reach.size bytes out
Gives (Demo width reach k) words bytes out = GivesDemo k width.bits reach.size out
Gives Sim words bytes out = GivesSim bytes out
Gives (Wave width reach) words bytes out = (sizes : List Size) × AsksWave words width.bits reach.size sizes × GivesDump sizes width.bits reach.size bytes out
Gives (Run8 width reach) words bytes out = (sizes : List Size) × IsRun8 words width.bits reach.size sizes × GivesEight sizes width.bits reach.size bytes out
Gives Unwave words bytes out = GivesUnwave bytes out
