use Rattle.av_base.proofs.Moves.{on_err}
use Rattle.av_page.proofs.Putting.{Puts-then_sent, front}
use Rattle.av_data.proofs.result.write_result.Goals as goal

pub returns-clause-front : goal.returns-clause-front
returns-clause-front g c = on_err c.finish.result (front (Puts-then_sent c.write_line.ensures c.finish.ensures.put) c.new-page.ensures)
