use Rattle.av_page.proofs.Putting.{Puts-none, Puts-more, Puts-is}
use Rattle.av_wave.proofs.Written.{port_taken}
use Rattle.av_wave.proofs.writer.put_ports.Goals as goal

pub loop-number-init : goal.loop-number-init
loop-number-init g c = Puts-none _ _

pub loop-number-preserved : goal.loop-number-preserved
loop-number-preserved g c =
    Puts-is (Puts-more c.loop-number.invariant c.put_port.ensures)
    (port_taken c.as_slice-port-items.result.now c.args.ports.now c.loop-number.number c.port-item.result c.as_slice-port-items.ensures c.loop-number-test.true c.port-item.is)
