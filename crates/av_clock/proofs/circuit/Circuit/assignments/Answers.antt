use Rattle.std.proofs.Common.{length, subst, sym}
use Rattle.av_net.specs.declared.netlist.Module.{Module}
use Rattle.av_clock.specs.Gates.{AreAssigned}
use Rattle.av_clock.proofs.circuit.Circuit.assignments.Goals as goal

pub returns : goal.returns
returns c = subst (AreAssigned c.args.self.now (length c.args.self.now.drives)) (sym c.deref.ensures.value) (subst (λ (m : Module). AreAssigned m (length m.drives) c.self.inside.merged.assignments.items) c.self.view_is c.self.invariant.assignments)
