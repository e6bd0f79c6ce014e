use Rattle.std.proofs.Common.{ℕ, List, ap}
use Rattle.av_kinds.specs.Names.{numbered}
use Rattle.av_kinds.specs.Tops.{port}
use Rattle.av_kinds.proofs.InterfaceSteps.{port_added}
use Rattle.av_kinds.proofs.interface.add_ports.Goals as goal

pub loop-k-preserved : goal.loop-k-preserved
loop-k-preserved c =
    port_added (numbered c.args.letter.now) c.args.width c.args.first c.loop-k.k c.args.ports.now c.loop-k.ports c.push.new.self (port c.args.width c.in_ok-numbered.field-0)
    c.loop-k.invariant c.in_ok-push.ensures.ok (ap (λ (n : List ℕ). port c.args.width n) c.in_ok-numbered.ensures)
