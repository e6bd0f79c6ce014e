use Rattle.std.proofs.Common.{subst}
use Rattle.av_cli.specs.declared.words.Command.{Command}
use Rattle.av_cli.specs.declared.words.Command.TheVariants.{Check, Schedule, Table, Emit, Run, Trace, Best, Stream, Wave, Run8, Sim, Unwave, Demo}
use Rattle.av_cli.specs.inner.CommandsSeen.{Are}
use Rattle.av_cli.proofs.Answered.{by_command}
use Rattle.av_cli.proofs.AskedAnswers.{check_answered, schedule_answered, table_answered, emit_answered, run_words, trace_words, wave_words, best_answered, eight_answered, stream_answered}
use Rattle.av_commands.proofs.Outputs.{puts_given}
use Rattle.av_cli.proofs.program.answer.Goals as goal

pub returns-in-Check : goal.returns-in-Check
returns-in-Check g c =
    let words = c.args.words.now in
    let bytes = c.args.bytes.now in
    by_command c.args.command (Check c.in-Check.width) words bytes c.in-Check.is
    (check_answered words c.in-Check.width.bits bytes (subst (λ (x : Command). Are x words) c.in-Check.is c.requires.read) c.check.ensures)

pub returns-in-Schedule : goal.returns-in-Schedule
returns-in-Schedule g c =
    let words = c.args.words.now in
    let bytes = c.args.bytes.now in
    let width = c.in-Schedule.width in
    let reach = c.in-Schedule.reach in
    by_command c.args.command (Schedule width reach) words bytes c.in-Schedule.is
    (schedule_answered words width.bits reach.size bytes (subst (λ (x : Command). Are x words) c.in-Schedule.is c.requires.read) c.schedule.ensures)

pub returns-in-Table : goal.returns-in-Table
returns-in-Table g c =
    let words = c.args.words.now in
    let bytes = c.args.bytes.now in
    let width = c.in-Table.width in
    let reach = c.in-Table.reach in
    by_command c.args.command (Table width reach) words bytes c.in-Table.is
    (table_answered words width.bits reach.size bytes (subst (λ (x : Command). Are x words) c.in-Table.is c.requires.read) c.table.ensures)

pub returns-in-Emit : goal.returns-in-Emit
returns-in-Emit g c =
    let words = c.args.words.now in
    let bytes = c.args.bytes.now in
    let width = c.in-Emit.width in
    let reach = c.in-Emit.reach in
    by_command c.args.command (Emit width reach) words bytes c.in-Emit.is
    (emit_answered words width.bits reach.size bytes (subst (λ (x : Command). Are x words) c.in-Emit.is c.requires.read) c.emit.ensures)

pub returns-in-Sim : goal.returns-in-Sim
returns-in-Sim g c = by_command c.args.command Sim c.args.words.now c.args.bytes.now c.in-Sim.is c.sim.ensures

pub returns-in-Run : goal.returns-in-Run
returns-in-Run g c =
    let words = c.args.words.now in
    let bytes = c.args.bytes.now in
    let width = c.in-Run.width in
    let reach = c.in-Run.reach in
    by_command c.args.command (Run width reach) words bytes c.in-Run.is
    (run_words words width.bits reach.size bytes (subst (λ (x : Command). Are x words) c.in-Run.is c.requires.read) c.answer_run.ensures)

pub returns-in-Trace : goal.returns-in-Trace
returns-in-Trace g c =
    let words = c.args.words.now in
    let bytes = c.args.bytes.now in
    let width = c.in-Trace.width in
    let reach = c.in-Trace.reach in
    by_command c.args.command (Trace width reach) words bytes c.in-Trace.is
    (trace_words words width.bits reach.size bytes (subst (λ (x : Command). Are x words) c.in-Trace.is c.requires.read) c.answer_run-in-Trace.ensures)

pub returns-in-Best : goal.returns-in-Best
returns-in-Best g c =
    let words = c.args.words.now in
    let bytes = c.args.bytes.now in
    let width = c.in-Best.width in
    let reach = c.in-Best.reach in
    by_command c.args.command (Best width reach) words bytes c.in-Best.is
    (best_answered words width.bits reach.size bytes (subst (λ (x : Command). Are x words) c.in-Best.is c.requires.read) c.best.ensures)

pub returns-in-Stream : goal.returns-in-Stream
returns-in-Stream g c =
    let words = c.args.words.now in
    let bytes = c.args.bytes.now in
    let width = c.in-Stream.width in
    let reach = c.in-Stream.reach in
    by_command c.args.command (Stream width reach) words bytes c.in-Stream.is
    (stream_answered words width.bits reach.size bytes (subst (λ (x : Command). Are x words) c.in-Stream.is c.requires.read) c.stream.ensures)

pub returns-in-Wave : goal.returns-in-Wave
returns-in-Wave g c =
    let words = c.args.words.now in
    let bytes = c.args.bytes.now in
    let width = c.in-Wave.width in
    let reach = c.in-Wave.reach in
    by_command c.args.command (Wave width reach) words bytes c.in-Wave.is
    (wave_words words width.bits reach.size bytes (subst (λ (x : Command). Are x words) c.in-Wave.is c.requires.read) c.answer_run-in-Wave.ensures)

pub returns-in-Run8 : goal.returns-in-Run8
returns-in-Run8 g c =
    let words = c.args.words.now in
    let bytes = c.args.bytes.now in
    let width = c.in-Run8.width in
    let reach = c.in-Run8.reach in
    by_command c.args.command (Run8 width reach) words bytes c.in-Run8.is
    (eight_answered words width.bits reach.size bytes (subst (λ (x : Command). Are x words) c.in-Run8.is c.requires.read) c.run8.ensures)

pub returns-in-Unwave : goal.returns-in-Unwave
returns-in-Unwave g c = by_command c.args.command Unwave c.args.words.now c.args.bytes.now c.in-Unwave.is c.unwave.ensures

pub returns-in-Demo : goal.returns-in-Demo
returns-in-Demo g c = by_command c.args.command (Demo c.in-Demo.width c.in-Demo.reach c.in-Demo.size) c.args.words.now c.args.bytes.now c.in-Demo.is (puts_given (λ out given. given) c.demo.ensures)
