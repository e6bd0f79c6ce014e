use Rattle.std.proofs.Common.{◌≡◌, sym, subst}
use Rattle.std.proofs.lemmas.Result.{IfOk-weaker}
use Rattle.av_net.specs.Designs.{IsSoundPlan}
use Rattle.av_verilog_tests.specs.inner.Plans.{sums_plan}
use Rattle.av_verilog_tests.proofs.Sums.{sums_sound}
use Rattle.av_verilog_tests.proofs.plans.plan.Goals as goal

pub returns : goal.returns
returns c = IfOk-weaker c.sums.result (λ plan. plan ≡ sums_plan) IsSoundPlan (λ plan is. subst IsSoundPlan (sym is) sums_sound) c.sums.ensures
