use Rattle.av_kinds.specs.inner.Numbered.{register_in, line_in, step_in}
use Rattle.av_kinds.proofs.Placing.{range_more, step_with, same_step}
use Rattle.av_kinds.proofs.delay_line.add_steps.Goals as goal

pub loop-delay-preserved : goal.loop-delay-preserved
loop-delay-preserved c =
    let names = c.args.names in
    let d = c.loop-delay.delay in
    range_more (step_in names) c.args.steps.now c.loop-delay.steps _ d (step_with c.in_ok-register.field-0 c.in_ok-line.field-0)
    c.loop-delay.invariant c.in_ok-push.ensures.ok (same_step c.in_ok-register.field-0 c.in_ok-line.field-0 (register_in names d) (line_in names d) c.in_ok-register.ensures c.in_ok-line.ensures)
