use Rattle.av_base.proofs.Moves.{on_err, Adds-more}
use Rattle.av_data.specs.Schedules.{schedule_text}
use Rattle.av_commands.specs.Bests.{cycles_line}
use Rattle.av_commands.proofs.Outputs.{front_more, front_after, on_ok_from, on_err_from}
use Rattle.av_commands.proofs.bests.write_least_schedule.Goals as goal

pub returns-in_err-write_schedule-clause-front : goal.returns-in_err-write_schedule-clause-front
returns-in_err-write_schedule-clause-front g c =
    let S = g.K.Sink.state in
    on_err c.from_residual.result (front_more (S c.args.sink.now).held (S c.write_schedule.new.sink).held (schedule_text c.args.timed.now) (cycles_line c.args.cycles) c.in_err-write_schedule.ensures.front)

pub returns-clause-added : goal.returns-clause-added
returns-clause-added g c =
    let S = g.K.Sink.state in
    on_ok_from c.write_cycles.result
    (λ adds. Adds-more (S c.args.sink.now).held (S c.write_schedule.new.sink).held (S c.write_cycles.new.sink).held (schedule_text c.args.timed.now) (cycles_line c.args.cycles) c.in_ok-write_schedule.ensures.added adds)
    c.write_cycles.ensures.added

pub returns-clause-front : goal.returns-clause-front
returns-clause-front g c =
    let S = g.K.Sink.state in
    on_err_from c.write_cycles.result
    (λ adds. front_after (S c.args.sink.now).held (S c.write_schedule.new.sink).held (S c.write_cycles.new.sink).held (schedule_text c.args.timed.now) (cycles_line c.args.cycles) c.in_ok-write_schedule.ensures.added adds)
    c.write_cycles.ensures.front
