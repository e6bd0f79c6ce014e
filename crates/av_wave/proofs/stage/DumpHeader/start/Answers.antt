use Rattle.std.proofs.Common.{◌≡◌, ap, sym, ◌∙◌, true≢false}
use Rattle.av_wave.specs.declared.stage.Stage.TheVariants.{Cycles}
use Rattle.av_wave.specs.inner.Heads.{Head}
use Rattle.av_wave.specs.inner.Parts.{Part, at_first}
use Rattle.av_wave.proofs.stage.DumpHeader.start.Goals as goal

pub returns-in_ok-recorder : goal.returns-in_ok-recorder
returns-in_ok-recorder c =
    let first : c.in_ok-recorder.recorder ≡ at_first c.args.self.name c.args.self.ports = c.in_ok-recorder.ensures.first ∙ ap (λ (h : Head). at_first h.name h.ports) c.self.view_is in
    (c.begins_cycle.ensures.0 c.if-begins_cycle.true, ap (λ (p : Part). Cycles p) first)

pub returns-else-begins_cycle : goal.returns-else-begins_cycle
returns-else-begins_cycle c = λ other takes. true≢false (sym (c.begins_cycle.ensures.1 takes.0) ∙ c.if-begins_cycle.false)
