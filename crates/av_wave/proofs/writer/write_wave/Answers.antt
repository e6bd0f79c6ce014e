use Rattle.av_base.proofs.Moves.{on_err}
use Rattle.av_page.proofs.Putting.{Puts-then_sent, front}
use Rattle.av_wave.proofs.Written.{all_added}
use Rattle.av_wave.proofs.writer.write_wave.Goals as goal

pub returns-clause-added : goal.returns-clause-added
returns-clause-added g c = all_added c.finish.result (Puts-then_sent c.put_wave.ensures c.finish.ensures.put) c.new-page.ensures c.finish.ensures.sent

pub returns-clause-front : goal.returns-clause-front
returns-clause-front g c = on_err c.finish.result (front (Puts-then_sent c.put_wave.ensures c.finish.ensures.put) c.new-page.ensures)
