use Rattle.av_compile.proofs.compiler.plan_and_design.Goals as goal

pub flatten-requires : goal.flatten-requires
flatten-requires c = c.in_ok-plan.ensures.is_plan.sound
