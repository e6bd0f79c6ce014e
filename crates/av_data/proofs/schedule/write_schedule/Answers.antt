use Rattle.std.proofs.Common.{ap₂, map, filter, List}
use Rattle.av_base.proofs.Moves.{on_err}
use Rattle.av_flat.specs.declared.flat.Var.{Var}
use Rattle.av_flat.specs.declared.timed.Time.{Time}
use Rattle.av_flat.specs.Trees.{view_variable}
use Rattle.av_flat.specs.Nodes.{is_node}
use Rattle.av_page.proofs.Putting.{Puts-then_sent, Puts-is, front}
use Rattle.av_data.specs.Schedules.{time_lines}
use Rattle.av_data.proofs.schedule.write_schedule.Goals as goal

pub returns-clause-front : goal.returns-clause-front
returns-clause-front g c =
    let lines = ap₂ (λ (vars : List Var) (times : List Time). time_lines (filter is_node (map view_variable vars)) times) c.as_slice.ensures c.as_slice-2.ensures in
    on_err c.finish.result (front (Puts-is (Puts-then_sent c.write_times.ensures c.finish.ensures.put) lines) c.new-page.ensures)
