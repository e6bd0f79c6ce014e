use Rattle.std.proofs.Common.{length, subst, ◌∙◌}
use Rattle.av_net.specs.declared.netlist.Module.{Module}
use Rattle.av_clock.specs.Gates.{AreAssigned}
use Rattle.av_clock.proofs.circuit.Circuit.computed.Goals as goal

pub returns : goal.returns
returns c = record {
  assignments = c.self.inside.merged.assignments.items;
  assigned = subst (λ (m : Module). AreAssigned m (length m.drives) c.self.inside.merged.assignments.items) c.self.view_is c.self.invariant.assignments;
  filtered = c.deref.ensures.value ∙ c.self.invariant.computed;
}
