use Rattle.std.proofs.Common.{List, ◌++◌, refl}
use Rattle.av_net.specs.declared.netlist.Port.{Port}
use Rattle.av_vnames.specs.inner.Scoped.{width_found}
use Rattle.av_vnames.proofs.Walks.{width_put}
use Rattle.av_vnames.proofs.RowWalks.{widths_more}
use Rattle.av_vnames.proofs.scope.insert_ports.Goals as goal

pub loop-port-preserved : goal.loop-port-preserved
loop-port-preserved c =
    widths_more (λ (ports : List Port). ports) (λ x xs. refl) c.loop-port.widths c.insert.new.self (width_found (c.args.widths.now ++ c.args.ports.now)) c.args.ports.now c.loop-port.port-index c.port-item.result
    c.loop-port.invariant c.loop-port-test.true c.port-item.is (λ q. width_put c.loop-port.widths c.insert.new.self c.port-item.result q c.in_ok-insert.ensures)
