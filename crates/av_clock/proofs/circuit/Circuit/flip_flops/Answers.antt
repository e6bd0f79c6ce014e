use Rattle.std.proofs.Common.{length, subst, sym}
use Rattle.av_net.specs.declared.netlist.Module.{Module}
use Rattle.av_clock.specs.Gates.{AreStepped}
use Rattle.av_clock.proofs.circuit.Circuit.flip_flops.Goals as goal

pub returns : goal.returns
returns c = subst (AreStepped c.args.self.now (length c.args.self.now.steps)) (sym c.deref.ensures.value) (subst (λ (m : Module). AreStepped m (length m.steps) c.self.inside.merged.flip_flops.items) c.self.view_is c.self.invariant.flip_flops)
