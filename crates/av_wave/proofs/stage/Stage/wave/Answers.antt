use Rattle.av_wave.proofs.Staging.{ends_some, ends_none, ends_other}
use Rattle.std.proofs.Common.{sym, ◌∙◌, true≢false}
use Rattle.av_wave.proofs.stage.Stage.wave.Goals as goal

pub returns-then-is_open-clause-some : goal.returns-then-is_open-clause-some
returns-then-is_open-clause-some c = ends_some c.args.self c.in-Cycles.recorder c.wave.result c.in-Cycles.is (c.is_open.ensures.0 c.if-is_open.true) c.wave.ensures

pub returns-in-Cycles-clause-none : goal.returns-in-Cycles-clause-none
returns-in-Cycles-clause-none c = ends_none c.args.self c.in-Cycles.recorder c.in-Cycles.is (λ none. true≢false (sym (c.is_open.ensures.1 none) ∙ c.if-is_open.false))

pub returns-clause-none : goal.returns-clause-none
returns-clause-none c = ends_other c.args.self c.in_default.not-Cycles
