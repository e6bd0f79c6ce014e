use Rattle.av_vnames.proofs.Walks.{width_put}
use Rattle.av_vnames.proofs.RowWalks.{on_ok}
use Rattle.av_vnames.proofs.scope.insert_register.Goals as goal

pub returns-in-Register : goal.returns-in-Register
returns-in-Register c =
    rw c.in-Register.is (on_ok c.insert.result (λ e q. width_put c.args.widths.now c.insert.new.self c.in-Register.port q e) c.insert.ensures)
