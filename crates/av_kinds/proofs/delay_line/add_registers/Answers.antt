use Rattle.std.proofs.Common.{ℕ, List, ap}
use Rattle.av_kinds.specs.Tops.{port}
use Rattle.av_kinds.specs.inner.Numbered.{register_in}
use Rattle.av_kinds.proofs.Placing.{range_more}
use Rattle.av_kinds.proofs.delay_line.add_registers.Goals as goal

pub loop-delay-preserved : goal.loop-delay-preserved
loop-delay-preserved c =
    range_more (λ d. port c.args.width (register_in c.args.names d)) c.args.registers.now c.loop-delay.registers c.push.new.self c.loop-delay.delay (port c.args.width c.in_ok-register.field-0)
    c.loop-delay.invariant c.in_ok-push.ensures.ok (ap (λ (n : List ℕ). port c.args.width n) c.in_ok-register.ensures)
