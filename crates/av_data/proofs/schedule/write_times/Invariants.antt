use Rattle.std.proofs.Common.{◌≡◌, length}
use Rattle.av_page.specs.Pages.{Puts}
use Rattle.av_data.specs.Schedules.{time_lines}
use Rattle.av_data.proofs.Timeds.{first_nodes}
use Rattle.av_data.proofs.schedule.write_times.Given as goal

abbrev pub invariant-loop-var : goal.invariant-loop-var
invariant-loop-var g l = record {
  count : l.next ≡ length (first_nodes l.fn.vars l.var-index);
  put : Puts (g.K.Sink.state l.fn.sink) (g.K.Sink.state l.sink) l.fn.page l.page (time_lines (first_nodes l.fn.vars l.var-index) l.fn.times);
}
