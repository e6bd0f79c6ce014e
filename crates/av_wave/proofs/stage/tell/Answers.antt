use Rattle.std.proofs.Common.{◌≤◌, List, length, sym, ◌∙◌, subst, true≢false}
use Rattle.av_net.specs.declared.netlist.Port.{Port}
use Rattle.av_wave.specs.inner.Parts.{Part}
use Rattle.av_wave.specs.inner.Stages.{Says}
use Rattle.av_wave.proofs.Kept.{port_within}
use Rattle.av_wave.proofs.Staging.{change_none, change_barred, change_takes, says_fits}
use Rattle.av_wave.proofs.stage.tell.Goals as goal

pub told_by-requires : goal.told_by-requires
told_by-requires c = subst (λ (ports : List Port). length ports ≤ 1073741824) (sym c.ports.ensures.ports) c.ports.ensures.few

pub returns-in_default : goal.returns-in_default
returns-in_default c =
    let p : Part = c.args.recorder in
    change_none p c.args.line.now c.requires (λ number value says. c.in_default.ensures.none number value (subst (λ (ports : List Port). Says ports c.args.line.now number value) (sym c.ports.ensures.ports) says))

pub may_change-requires : goal.may_change-requires
may_change-requires c = port_within (says_fits (subst (λ (ports : List Port). Says ports c.args.line.now c.in-Some.told.port c.in-Some.told.value) c.ports.ensures.ports c.in-Some.ensures.some))

pub returns-then-not-may_change : goal.returns-then-not-may_change
returns-then-not-may_change c =
    let p : Part = c.args.recorder in
    let says = subst (λ (ports : List Port). Says ports c.args.line.now c.in-Some.told.port c.in-Some.told.value) c.ports.ensures.ports c.in-Some.ensures.some in
    change_barred p c.args.line.now c.in-Some.told.port c.in-Some.told.value c.requires says (λ next. true≢false (sym (c.may_change.ensures.no next) ∙ c.if-not-may_change.true))

pub change-requires-clause-next : goal.change-requires-clause-next
change-requires-clause-next c = c.may_change.ensures.yes c.if-not-may_change.false

pub change-requires-clause-fits : goal.change-requires-clause-fits
change-requires-clause-fits c = says_fits (subst (λ (ports : List Port). Says ports c.args.line.now c.in-Some.told.port c.in-Some.told.value) c.ports.ensures.ports c.in-Some.ensures.some)

pub returns : goal.returns
returns c =
    let p : Part = c.args.recorder in
    let says = subst (λ (ports : List Port). Says ports c.args.line.now c.in-Some.told.port c.in-Some.told.value) c.ports.ensures.ports c.in-Some.ensures.some in
    change_takes p c.change.new.self c.args.line.now c.in-Some.told.port c.in-Some.told.value says (c.may_change.ensures.yes c.if-not-may_change.false) c.in_ok-change.ensures
