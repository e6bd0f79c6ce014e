use Rattle.std.proofs.lemmas.Result.{on_ok_weaker}
use Rattle.av_base.proofs.Moves.{on_err}
use Rattle.av_page.proofs.Putting.{Puts-then_sent, front}
use Rattle.av_wave.proofs.Written.{all_added}
use Rattle.av_wave.proofs.run.write_dump.Goals as goal

pub returns-clause-added : goal.returns-clause-added
returns-clause-added g c =
    let dump = c.put_run.ensures in
    on_ok_weaker c.finish.result (λ adds. record { wave = dump.wave; captured = dump.captured; added = adds }) (all_added c.finish.result (Puts-then_sent dump.put c.finish.ensures.put) c.new-page.ensures c.finish.ensures.sent)

pub returns-clause-front : goal.returns-clause-front
returns-clause-front g c =
    let dump = c.put_run.ensures in
    on_err c.finish.result (record { wave = dump.wave; captured = dump.captured; added = front (Puts-then_sent dump.put c.finish.ensures.put) c.new-page.ensures })
