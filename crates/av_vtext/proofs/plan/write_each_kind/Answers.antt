use Rattle.av_net.specs.PlanTexts.{kind_text}
use Rattle.av_page.proofs.Putting.{Puts-none, Puts-next}
use Rattle.av_vtext.proofs.plan.write_each_kind.Goals as goal

pub loop-kind-init : goal.loop-kind-init
loop-kind-init g c = Puts-none _ _

pub loop-kind-preserved : goal.loop-kind-preserved
loop-kind-preserved g c = Puts-next kind_text _ _ c.kind-item.result c.loop-kind-test.true c.kind-item.is c.loop-kind.invariant c.write_kind.ensures
