use Rattle.std.proofs.Common.{◌∙◌, ◌-◌, [], ◌∷◌, ◌++◌, ap}
use Rattle.std.proofs.lemmas.Result.{on_ok_weaker}
use Rattle.av_base.specs.declared.width.Width.{Width}
use Rattle.av_net.specs.declared.operation.Symbol.TheVariants.{Add, Equal}
use Rattle.av_net.specs.declared.operation.Operand.TheVariants.{Name}
use Rattle.av_net.specs.declared.operation.Operation.TheVariants.{Binary}
use Rattle.av_kinds.specs.declared.counter.Counter.TheVariants.{Phases}
use Rattle.av_kinds.specs.Counters.{counter_width, counter_name, next_name, last_name, sum_name}
use Rattle.av_kinds.specs.Tops.{port, one_bit}
use Rattle.av_kinds.specs.inner.Counts.{bound, begun_again}
use Rattle.av_kinds.proofs.Placing.{drive_of}
use Rattle.av_kinds.proofs.TopSteps.{three_put}
use Rattle.av_kinds.proofs.counter.Counter.add_parts.Goals as goal

pub returns-in_ok-add_combined-in-Phases-2-clause-wires : goal.returns-in_ok-add_combined-in-Phases-2-clause-wires
returns-in_ok-add_combined-in-Phases-2-clause-wires c =
    let next = next_name (Phases c.in-Phases.period) in
    let w0 = c.args.wires.now in
    let w1 = c.add_combined-in-Phases.new.wires in
    let w2 = c.add_combined-in-Phases-2.new.wires in
    rw c.in-Phases.is
    (on_ok_weaker c.add_begun_again.result
    (three_put w0 w1 w2 c.add_begun_again.new.wires (port one_bit last_name) (port counter_width sum_name) (port counter_width next)
    (c.in_ok-add_combined-in-Phases.ensures.wires ∙ ap (λ (w : Width). w0 ++ port w last_name ∷ []) c.bit.ensures)
    (c.in_ok-add_combined-in-Phases-2.ensures.wires ∙ ap (λ (w : Width). w1 ++ port w sum_name ∷ []) c.counter_width-width.ensures))
    c.add_begun_again.ensures.wires)

pub returns-in_ok-add_combined-in-Phases-2-clause-drives : goal.returns-in_ok-add_combined-in-Phases-2-clause-drives
returns-in_ok-add_combined-in-Phases-2-clause-drives c =
    let period = c.in-Phases.period in
    let d0 = c.args.drives.now in
    let d1 = c.add_combined-in-Phases.new.drives in
    let d2 = c.add_combined-in-Phases-2.new.drives in
    rw c.in-Phases.is
    (on_ok_weaker c.add_begun_again.result
    (three_put d0 d1 d2 c.add_begun_again.new.drives (drive_of last_name (Binary (Name (counter_name (Phases period))) Equal (bound (period - 1)))) (drive_of sum_name (Binary (Name (counter_name (Phases period))) Add (bound 1))) (drive_of (next_name (Phases period)) begun_again)
    c.in_ok-add_combined-in-Phases.ensures.drives
    c.in_ok-add_combined-in-Phases-2.ensures.drives)
    c.add_begun_again.ensures.drives)
