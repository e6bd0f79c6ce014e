use Rattle.std.proofs.Common.{ap}
use Rattle.std.proofs.lemmas.Result.{on_ok_weaker}
use Rattle.av_base.proofs.Moves.{on_err}
use Rattle.av_page.specs.Pages.{Draft}
use Rattle.av_page.proofs.Putting.{Puts-then_sent, whole, front}
use Rattle.av_data.proofs.table.write_table.Goals as goal

pub returns-clause-added : goal.returns-clause-added
returns-clause-added g c =
    on_ok_weaker c.finish.result (λ e. whole (Puts-then_sent c.write_lines.ensures c.finish.ensures.put) c.new-page.ensures (ap (λ (d : Draft). d.waiting) e) (ap (λ (d : Draft). d.failed) e)) c.finish.ensures.sent

pub returns-clause-front : goal.returns-clause-front
returns-clause-front g c = on_err c.finish.result (front (Puts-then_sent c.write_lines.ensures c.finish.ensures.put) c.new-page.ensures)
