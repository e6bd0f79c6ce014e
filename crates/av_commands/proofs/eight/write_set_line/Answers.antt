use Rattle.av_base.proofs.Moves.{on_err}
use Rattle.av_page.proofs.Putting.{Puts-more, Puts-then_sent, front}
use Rattle.av_commands.proofs.Sent.{on_ok_added}
use Rattle.av_commands.proofs.eight.write_set_line.Goals as goal

pub returns-clause-added : goal.returns-clause-added
returns-clause-added g c =
    on_ok_added c.finish.result (Puts-then_sent (Puts-more (Puts-more c.put.ensures c.put_number.ensures) c.put-2.ensures) c.finish.ensures.put) c.new-page.ensures c.finish.ensures.sent

pub returns-clause-front : goal.returns-clause-front
returns-clause-front g c =
    on_err c.finish.result (front (Puts-then_sent (Puts-more (Puts-more c.put.ensures c.put_number.ensures) c.put-2.ensures) c.finish.ensures.put) c.new-page.ensures)
