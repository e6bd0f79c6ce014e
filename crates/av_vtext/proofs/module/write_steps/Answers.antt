use Rattle.av_net.specs.Texts.{step_line}
use Rattle.av_page.proofs.Putting.{Puts-none, Puts-next}
use Rattle.av_vtext.proofs.module.write_steps.Goals as goal

pub loop-step-init : goal.loop-step-init
loop-step-init g c = Puts-none _ _

pub loop-step-preserved : goal.loop-step-preserved
loop-step-preserved g c = Puts-next (step_line c.args.registers.now) _ _ c.step-item.result c.loop-step-test.true c.step-item.is c.loop-step.invariant c.write_step.ensures
