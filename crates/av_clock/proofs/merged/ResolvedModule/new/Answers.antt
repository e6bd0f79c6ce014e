use Rattle.std.proofs.Common.{length, subst}
use Rattle.av_net.specs.declared.netlist.Module.{Module}
use Rattle.av_clock.specs.Gates.{AreAssigned, AreStepped}
use Rattle.av_clock.proofs.merged.ResolvedModule.new.Goals as goal

pub returns-clause-assigned : goal.returns-clause-assigned
returns-clause-assigned c = subst (λ (m : Module). AreAssigned m (length m.drives) c.in_ok-assignments.assignments.items) c.in_ok-resolver.ensures c.in_ok-assignments.ensures

pub returns-clause-stepped : goal.returns-clause-stepped
returns-clause-stepped c = subst (λ (m : Module). AreStepped m (length m.steps) c.in_ok-flip_flops.flip_flops.items) c.in_ok-resolver.ensures c.in_ok-flip_flops.ensures
