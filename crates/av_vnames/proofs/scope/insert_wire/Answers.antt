use Rattle.av_vnames.proofs.Walks.{width_put}
use Rattle.av_vnames.proofs.RowWalks.{on_ok}
use Rattle.av_vnames.proofs.scope.insert_wire.Goals as goal

pub returns-in-Wire : goal.returns-in-Wire
returns-in-Wire c =
    rw c.in-Wire.is (on_ok c.insert.result (λ e q. width_put c.args.widths.now c.insert.new.self c.in-Wire.port q e) c.insert.ensures)
