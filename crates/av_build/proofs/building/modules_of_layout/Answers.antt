use Rattle.std.proofs.Common.{arith}
use Rattle.std.proofs.lemmas.Result.{IfOk-weaker}
use Rattle.std.proofs.lemmas.Grind.{common_steps}
use Rattle.av_kinds.specs.declared.counter.Counter.TheVariants.{Cycles}
use Rattle.av_kinds.specs.declared.planning.Modules.{Modules}
use Rattle.av_kinds.specs.Netlists.{plan_of}
use Rattle.av_kinds.specs.Written.{program_of}
use Rattle.av_build.specs.ArrayPlans.{IsPlanOf, IsCountingPlan}
use Rattle.av_build.proofs.Headline.{plan_of_one}
use Rattle.av_build.proofs.Promised.{counting_plans}
use Rattle.av_build.proofs.WithinCount.{cycles_apart}
use Rattle.av_build.proofs.building.modules_of_layout.Goals as goal

pub program_of_layout-requires-clause-apart : goal.program_of_layout-requires-clause-apart
program_of_layout-requires-clause-apart c = cycles_apart c.args.timed.now c.args.cells.now c.requires.legal c.requires.whole c.requires.within

pub returns : goal.returns
returns c =
    let t = c.args.timed.now in
    let a = c.args.cells.now in
    let program = c.in_ok-program.program in
    let made = counting_plans t a c.requires.legal c.requires.within Cycles (program_of program) c.in_ok-program.ensures c.modules_of.result c.modules_of.ensures.netlists c.modules_of.ensures.form in
    IfOk-weaker c.modules_of.result (λ (m : Modules). IsCountingPlan t a Cycles (plan_of a.listing m)) (λ (m : Modules). IsPlanOf t a (plan_of a.listing m)) (λ m. plan_of_one t a c.requires.legal (plan_of a.listing m)) made

pub modules_of-requires-clause-program : goal.modules_of-requires-clause-program
modules_of-requires-clause-program c = grind (arith, common_steps)
