use Rattle.std.proofs.Common.{true≢false, refl, sym, ◌∙◌}
use Rattle.std.proofs.lemmas.Result.{on_ok_weaker}
use Rattle.av_wave.proofs.Kept.{port_within}
use Rattle.av_wave.proofs.Telling.{told_is, not_told}
use Rattle.av_wave.proofs.recorder.Recorder.tell.Goals as goal

pub may_change-requires : goal.may_change-requires
may_change-requires c = port_within c.requires.fits

pub returns-then-may_change : goal.returns-then-may_change
returns-then-may_change c = on_ok_weaker c.change.result (told_is c.args.self.now c.change.new.self c.args.port c.args.value) c.change.ensures

pub returns-else-may_change : goal.returns-else-may_change
returns-else-may_change c =
    not_told c.args.self.now c.args.self.now c.args.port c.args.value refl c.requires.cycle c.requires.order c.requires.first (λ next. true≢false (sym (c.may_change.ensures.no next) ∙ c.if-may_change.false))
