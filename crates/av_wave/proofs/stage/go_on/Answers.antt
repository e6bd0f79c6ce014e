use Rattle.std.proofs.Common.{ℕ, ◌+◌, ap, sym, ◌∙◌, subst, true≢false}
use Rattle.av_wave.specs.Dumps.{time_line}
use Rattle.av_wave.specs.declared.stage.Stage.TheVariants.{Cycles}
use Rattle.av_wave.specs.inner.Parts.{Part}
use Rattle.av_wave.specs.inner.Stages.{Takes}
use Rattle.av_wave.proofs.Staging.{time_takes, time_none}
use Rattle.av_wave.proofs.stage.go_on.Goals as goal

pub returns-then-may_end : goal.returns-then-may_end
returns-then-may_end c =
    let p : Part = c.args.recorder in
    let line = c.begins_cycle.ensures.0 c.if-begins_cycle.true ∙ ap (λ (n : ℕ). time_line (n + 1)) c.cycle.ensures.cycle in
    subst (λ (q : Part). Takes (Cycles p) c.args.line.now (Cycles q)) (sym c.end_cycle.ensures.next) (time_takes p c.args.line.now line (c.may_end.ensures.yes c.if-may_end.true))

pub returns-then-begins_cycle : goal.returns-then-begins_cycle
returns-then-begins_cycle c =
    let p : Part = c.args.recorder in
    let line = c.begins_cycle.ensures.0 c.if-begins_cycle.true ∙ ap (λ (n : ℕ). time_line (n + 1)) c.cycle.ensures.cycle in
    time_none p c.args.line.now line (λ may. true≢false (sym (c.may_end.ensures.no may) ∙ c.if-may_end.false))

pub tell-requires : goal.tell-requires
tell-requires c = λ e. true≢false (sym (c.begins_cycle.ensures.1 (e ∙ ap (λ (n : ℕ). time_line (n + 1)) (sym c.cycle.ensures.cycle))) ∙ c.if-begins_cycle.false)
