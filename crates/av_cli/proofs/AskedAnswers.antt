-- What a command answers for the sizes that its words give, it answers for the words that it was read from.
use Rattle.std.proofs.Common.{ℕ, List}
use Rattle.std.specs.Prelude.{codes}
use Rattle.av_base.specs.Outside.{SinkState}
use Rattle.av_names.specs.declared.size.Size.{Size}
use Rattle.av_commands.specs.declared.status.Status.{Status}
use Rattle.av_cli.specs.Commands.{IsCheck, IsRun8, IsEmit, IsBest, IsRun, IsTrace, AsksWave, IsSchedule, IsStream, IsTable}
use Rattle.av_commands.specs.Checks.{RefusesCheck, GivesCheck}
use Rattle.av_commands.specs.WithWords.{RefusesWith, GivesWith, RefusesEightWith, GivesEightWith, RefusesEmitWith, GivesMapped, GivesEmitWith, RefusesBestWith, GivesBestWith, RefusesRunWith, GivesReportWith, RefusesScheduleWith, GivesScheduleWith, RefusesStreamWith, GivesStreamWith, RefusesTableWith, GivesTableWith}
use Rattle.av_commands.specs.Written.{IsAnswered, refused, given, no_memory}
use Rattle.av_cli.proofs.GivenSizes.{with_sizes}
use Rattle.av_commands.specs.Eights.{RefusesEight, GivesEight}
use Rattle.av_commands.specs.Tables.{RefusesTable, GivesTable}
use Rattle.av_commands.specs.Bests.{RefusesBest, GivesBest}
use Rattle.av_commands.specs.declared.runs.Report.TheVariants.{Results, Trace, Wave}
use Rattle.av_commands.specs.Runs.{RefusesRun, GivesResults, GivesTrace}
use Rattle.av_commands.specs.Waves.{GivesDump}
use Rattle.av_commands.specs.Schedules.{RefusesSchedule, GivesSchedule}
use Rattle.av_commands.specs.Streams.{RefusesStream, GivesStream}

pub check_answered : (words : List (List ℕ)) (bits : ℕ) (bytes : List ℕ) {sink sink' : SinkState} {status : Status} → ((found : List Size) × IsCheck words bits found)
    → IsAnswered (RefusesWith words bits bytes) (GivesWith words bits bytes) sink sink' status
    → IsAnswered (λ reason. (sizes : List Size) × IsCheck words bits sizes × RefusesCheck sizes bits bytes reason) (λ out. (sizes : List Size) × IsCheck words bits sizes × GivesCheck sizes bits bytes out)
    sink sink' status
check_answered words bits bytes (found, (box, is)) (refused r put) = refused (r.sizes, (box, with_sizes (codes "check") words bits box found r.sizes is r.give), r.refuses) put
check_answered words bits bytes (found, (box, is)) (given g put) = given (g.sizes, (box, with_sizes (codes "check") words bits box found g.sizes is g.give), g.gives) put
check_answered words bits bytes found (no_memory a b) = no_memory a b

pub eight_answered : (words : List (List ℕ)) (bits box : ℕ) (bytes : List ℕ) {sink sink' : SinkState} {status : Status} → ((found : List Size) × IsRun8 words bits box found)
    → IsAnswered (RefusesEightWith words bits box bytes) (GivesEightWith words bits box bytes) sink sink' status
    → IsAnswered (λ reason. (sizes : List Size) × IsRun8 words bits box sizes × RefusesEight sizes bits box bytes reason)
    (λ out. (sizes : List Size) × IsRun8 words bits box sizes × GivesEight sizes bits box bytes out)
    sink sink' status
eight_answered words bits box bytes (found, is) (refused r put) = refused (r.sizes, with_sizes (codes "run8") words bits box found r.sizes is r.give, r.refuses) put
eight_answered words bits box bytes (found, is) (given g put) = given (g.sizes, with_sizes (codes "run8") words bits box found g.sizes is g.give, g.gives) put
eight_answered words bits box bytes found (no_memory a b) = no_memory a b

pub emit_answered : (words : List (List ℕ)) (bits box : ℕ) (bytes : List ℕ) {sink sink' : SinkState} {status : Status} → ((found : List Size) × IsEmit words bits box found)
    → IsAnswered (RefusesEmitWith words bits box bytes) (GivesEmitWith words bits box bytes) sink sink' status
    → IsAnswered (λ reason. (sizes : List Size) × IsEmit words bits box sizes × RefusesTable sizes bits box bytes reason)
    (λ out. (sizes : List Size) × IsEmit words bits box sizes × GivesMapped sizes bits box bytes out)
    sink sink' status
emit_answered words bits box bytes (found, is) (refused r put) = refused (r.sizes, with_sizes (codes "emit") words bits box found r.sizes is r.give, r.refuses) put
emit_answered words bits box bytes (found, is) (given g put) = given (g.sizes, with_sizes (codes "emit") words bits box found g.sizes is g.give, g.gives) put
emit_answered words bits box bytes found (no_memory a b) = no_memory a b

pub best_answered : (words : List (List ℕ)) (bits box : ℕ) (bytes : List ℕ) {sink sink' : SinkState} {status : Status} → ((found : List Size) × IsBest words bits box found)
    → IsAnswered (RefusesBestWith words bits box bytes) (GivesBestWith words bits box bytes) sink sink' status
    → IsAnswered (λ reason. (sizes : List Size) × IsBest words bits box sizes × RefusesBest sizes bits box bytes reason)
    (λ out. (sizes : List Size) × IsBest words bits box sizes × GivesBest sizes bits box bytes out)
    sink sink' status
best_answered words bits box bytes (found, is) (refused r put) = refused (r.sizes, with_sizes (codes "best") words bits box found r.sizes is r.give, r.refuses) put
best_answered words bits box bytes (found, is) (given g put) = given (g.sizes, with_sizes (codes "best") words bits box found g.sizes is g.give, g.gives) put
best_answered words bits box bytes found (no_memory a b) = no_memory a b

pub run_words : (words : List (List ℕ)) (bits box : ℕ) (bytes : List ℕ) {sink sink' : SinkState} {status : Status} → ((found : List Size) × IsRun words bits box found)
    → IsAnswered (RefusesRunWith words bits box bytes) (GivesReportWith Results words bits box bytes) sink sink' status
    → IsAnswered (λ reason. (sizes : List Size) × IsRun words bits box sizes × RefusesRun sizes bits box bytes reason)
    (λ out. (sizes : List Size) × IsRun words bits box sizes × GivesResults sizes bits box bytes out)
    sink sink' status
run_words words bits box bytes (found, is) (refused r put) = refused (r.sizes, with_sizes (codes "run") words bits box found r.sizes is r.give, r.refuses) put
run_words words bits box bytes (found, is) (given g put) = given (g.sizes, with_sizes (codes "run") words bits box found g.sizes is g.give, g.gives) put
run_words words bits box bytes found (no_memory a b) = no_memory a b

pub trace_words : (words : List (List ℕ)) (bits box : ℕ) (bytes : List ℕ) {sink sink' : SinkState} {status : Status} → ((found : List Size) × IsTrace words bits box found)
    → IsAnswered (RefusesRunWith words bits box bytes) (GivesReportWith Trace words bits box bytes) sink sink' status
    → IsAnswered (λ reason. (sizes : List Size) × IsTrace words bits box sizes × RefusesRun sizes bits box bytes reason)
    (λ out. (sizes : List Size) × IsTrace words bits box sizes × GivesTrace sizes bits box bytes out)
    sink sink' status
trace_words words bits box bytes (found, is) (refused r put) = refused (r.sizes, with_sizes (codes "trace") words bits box found r.sizes is r.give, r.refuses) put
trace_words words bits box bytes (found, is) (given g put) = given (g.sizes, with_sizes (codes "trace") words bits box found g.sizes is g.give, g.gives) put
trace_words words bits box bytes found (no_memory a b) = no_memory a b

pub wave_words : (words : List (List ℕ)) (bits box : ℕ) (bytes : List ℕ) {sink sink' : SinkState} {status : Status} → ((found : List Size) × AsksWave words bits box found)
    → IsAnswered (RefusesRunWith words bits box bytes) (GivesReportWith Wave words bits box bytes) sink sink' status
    → IsAnswered (λ reason. (sizes : List Size) × AsksWave words bits box sizes × RefusesRun sizes bits box bytes reason)
    (λ out. (sizes : List Size) × AsksWave words bits box sizes × GivesDump sizes bits box bytes out)
    sink sink' status
wave_words words bits box bytes (found, is) (refused r put) = refused (r.sizes, with_sizes (codes "wave") words bits box found r.sizes is r.give, r.refuses) put
wave_words words bits box bytes (found, is) (given g put) = given (g.sizes, with_sizes (codes "wave") words bits box found g.sizes is g.give, g.gives) put
wave_words words bits box bytes found (no_memory a b) = no_memory a b

pub schedule_answered : (words : List (List ℕ)) (bits box : ℕ) (bytes : List ℕ) {sink sink' : SinkState} {status : Status} → ((found : List Size) × IsSchedule words bits box found)
    → IsAnswered (RefusesScheduleWith words bits box bytes) (GivesScheduleWith words bits box bytes) sink sink' status
    → IsAnswered (λ reason. (sizes : List Size) × IsSchedule words bits box sizes × RefusesSchedule sizes bits box bytes reason)
    (λ out. (sizes : List Size) × IsSchedule words bits box sizes × GivesSchedule sizes bits box bytes out)
    sink sink' status
schedule_answered words bits box bytes (found, is) (refused r put) = refused (r.sizes, with_sizes (codes "schedule") words bits box found r.sizes is r.give, r.refuses) put
schedule_answered words bits box bytes (found, is) (given g put) = given (g.sizes, with_sizes (codes "schedule") words bits box found g.sizes is g.give, g.gives) put
schedule_answered words bits box bytes found (no_memory a b) = no_memory a b

pub stream_answered : (words : List (List ℕ)) (bits box : ℕ) (bytes : List ℕ) {sink sink' : SinkState} {status : Status} → ((found : List Size) × IsStream words bits box found)
    → IsAnswered (RefusesStreamWith words bits box bytes) (GivesStreamWith words bits box bytes) sink sink' status
    → IsAnswered (λ reason. (sizes : List Size) × IsStream words bits box sizes × RefusesStream sizes bits box bytes reason)
    (λ out. (sizes : List Size) × IsStream words bits box sizes × GivesStream sizes bits box bytes out)
    sink sink' status
stream_answered words bits box bytes (found, is) (refused r put) = refused (r.sizes, with_sizes (codes "stream") words bits box found r.sizes is r.give, r.refuses) put
stream_answered words bits box bytes (found, is) (given g put) = given (g.sizes, with_sizes (codes "stream") words bits box found g.sizes is g.give, g.gives) put
stream_answered words bits box bytes found (no_memory a b) = no_memory a b

pub table_answered : (words : List (List ℕ)) (bits box : ℕ) (bytes : List ℕ) {sink sink' : SinkState} {status : Status} → ((found : List Size) × IsTable words bits box found)
    → IsAnswered (RefusesTableWith words bits box bytes) (GivesTableWith words bits box bytes) sink sink' status
    → IsAnswered (λ reason. (sizes : List Size) × IsTable words bits box sizes × RefusesTable sizes bits box bytes reason)
    (λ out. (sizes : List Size) × IsTable words bits box sizes × GivesTable sizes bits box bytes out)
    sink sink' status
table_answered words bits box bytes (found, is) (refused r put) = refused (r.sizes, with_sizes (codes "table") words bits box found r.sizes is r.give, r.refuses) put
table_answered words bits box bytes (found, is) (given g put) = given (g.sizes, with_sizes (codes "table") words bits box found g.sizes is g.give, g.gives) put
table_answered words bits box bytes found (no_memory a b) = no_memory a b
