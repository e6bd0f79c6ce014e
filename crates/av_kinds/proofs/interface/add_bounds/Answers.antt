use Rattle.std.proofs.Common.{◌+◌, ◌*◌, ◌++◌, ◌∙◌, ap}
use Rattle.av_base.specs.declared.width.Width.{Width}
use Rattle.av_kinds.specs.Names.{bound_name}
use Rattle.av_kinds.specs.inner.Interfaces.{ports_by}
use Rattle.av_kinds.proofs.InterfaceSteps.{window_put}
use Rattle.av_kinds.proofs.interface.add_bounds.Goals as goal

pub loop-k-preserved : goal.loop-k-preserved
loop-k-preserved c =
    window_put c.args.bound c.loop-k.k c.args.ports.now c.loop-k.ports c.add_ports.new.ports c.loop-k.invariant
    (c.in_ok-add_ports.ensures ∙ ap (λ (w : Width). c.loop-k.ports ++ ports_by bound_name w (c.args.bound + 2 * c.loop-k.k) 2) c.counter_width.ensures)
