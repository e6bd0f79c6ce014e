use Rattle.av_base.proofs.Moves.{on_err}
use Rattle.av_page.proofs.Putting.{Puts-more, Puts-then_sent, front}
use Rattle.av_data.proofs.cycle.write_cycle.Goals as goal

pub returns-clause-front : goal.returns-clause-front
returns-clause-front g c =
    let text = Puts-more (Puts-more c.put_number.ensures c.write_values.ensures) c.put.ensures in
    on_err c.finish.result (front (Puts-then_sent text c.finish.ensures.put) c.new-page.ensures)
