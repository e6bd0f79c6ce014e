use Rattle.std.proofs.Common.{ap, arith}
use Rattle.std.proofs.lemmas.Grind.{common_steps}
use Rattle.av_kinds.specs.inner.Shapes.{ModeShapeMade, mode_shape_of}
use Rattle.av_kinds.proofs.InterfaceSteps.{tested_added}
use Rattle.av_kinds.proofs.interface.Interface.add_mode.Goals as goal

pub returns-clause-ports : goal.returns-clause-ports
returns-clause-ports c =
    tested_added c.args.self.now c.add_datapath.new.self (mode_shape_of c.args.mode.now) c.mode.inside.windows c.add_bounds.new.ports (ap (λ (m : ModeShapeMade). m.windows) c.mode.view_is) c.in_ok-datapath.ensures.ports c.in_ok-add_bounds.ensures

pub returns-clause-datapath : goal.returns-clause-datapath
returns-clause-datapath c = grind (arith, common_steps)

pub overflow_add-self : goal.overflow_add-self
overflow_add-self c = grind (arith, common_steps)
