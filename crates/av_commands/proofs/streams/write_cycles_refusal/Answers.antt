use Rattle.std.proofs.Common.{◌++◌, ap, append_assoc, codes}
use Rattle.std.specs.Prelude.{decimal}
use Rattle.av_base.proofs.Moves.{on_err}
use Rattle.av_page.proofs.Putting.{Puts-more, Puts-is, Puts-then_sent, front}
use Rattle.av_commands.proofs.Sent.{on_ok_added}
use Rattle.av_commands.proofs.streams.write_cycles_refusal.Goals as goal

pub returns-clause-added : goal.returns-clause-added
returns-clause-added g c =
    let text = Puts-is (Puts-more (Puts-more c.put.ensures c.put_number.ensures) c.put-2.ensures) (ap (λ z. z ++ codes "\n") (append_assoc (codes "refused: ") (codes "stream cycles ") (decimal c.args.cycles))) in
    on_ok_added c.finish.result (Puts-then_sent text c.finish.ensures.put) c.new-page.ensures c.finish.ensures.sent

pub returns-clause-front : goal.returns-clause-front
returns-clause-front g c =
    let text = Puts-is (Puts-more (Puts-more c.put.ensures c.put_number.ensures) c.put-2.ensures) (ap (λ z. z ++ codes "\n") (append_assoc (codes "refused: ") (codes "stream cycles ") (decimal c.args.cycles))) in
    on_err c.finish.result (front (Puts-then_sent text c.finish.ensures.put) c.new-page.ensures)
