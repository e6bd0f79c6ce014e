use Rattle.std.proofs.Common.{subst}
use Rattle.std.proofs.lemmas.Result.{on_ok_weaker}
use Rattle.av_clock.specs.Gates.{IsRead}
use Rattle.av_clock.proofs.Readings.{entered_push}
use Rattle.av_clock.proofs.readers.enter_reading.Goals as goal

pub returns-in-At-clause-entered : goal.returns-in-At-clause-entered
returns-in-At-clause-entered c =
    on_ok_weaker c.push.result (λ pushed names operand distinct same is.
    entered_push names c.args.lists.now.items c.in-At.place c.args.reader operand c.index_mut.result.now c.push.new.self distinct same (subst (IsRead names operand) c.in-At.is is) c.index_mut.ensures.value pushed) c.push.ensures.ok
