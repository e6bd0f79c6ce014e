use Rattle.std.proofs.Common.{◌≡◌, ◌∙◌, sym, ap, subst}
use Rattle.std.specs.Prelude.{IfOk, IfErr}
use Rattle.av_flat.specs.declared.timed.Timed.{Timed}
use Rattle.av_flat.specs.Legal.{IsLegal}
use Rattle.av_space.specs.declared.fault.SpaceFault.{SpaceFault}
use Rattle.av_space.specs.declared.fault.SpaceFault.TheVariants as fault
use Rattle.av_space.specs.Layouts.{IsLayout}
use Rattle.av_space.specs.SpaceFaults.{IsSpaceFault}
use Rattle.av_space.specs.Whole.{IsWhole}
use Rattle.av_space.specs.inner.Scheduled.{Scheduled}
use Rattle.av_space.proofs.mapping.map_layout.Goals as goal

pub new-scheduled-requires-clause-legal : goal.new-scheduled-requires-clause-legal
new-scheduled-requires-clause-legal c = subst IsLegal (sym c.in_ok-nodes.ensures) c.requires.legal

pub new-scheduled-requires-clause-layout : goal.new-scheduled-requires-clause-layout
new-scheduled-requires-clause-layout c = subst (λ (t : Timed). IsLayout t c.args.layout.now) (sym c.in_ok-nodes.ensures) c.requires.layout

pub returns-clause-whole : goal.returns-clause-whole
returns-clause-whole c =
    let same = c.new-scheduled.ensures ∙ ap (λ (t : Timed). record { timed = t; layout = c.args.layout.now }) c.in_ok-nodes.ensures in
    subst (λ (at : Scheduled). IfOk c.mapped.result (IsWhole at.timed)) same c.mapped.ensures.whole

pub returns-clause-complete : goal.returns-clause-complete
returns-clause-complete c =
    let same = c.new-scheduled.ensures ∙ ap (λ (t : Timed). record { timed = t; layout = c.args.layout.now }) c.in_ok-nodes.ensures in
    subst (λ (at : Scheduled). IfOk c.mapped.result (λ a. (f : SpaceFault) → IsSpaceFault at.timed f → f ≡ fault.Memory)) same c.mapped.ensures.complete

pub returns-clause-refused : goal.returns-clause-refused
returns-clause-refused c =
    let same = c.new-scheduled.ensures ∙ ap (λ (t : Timed). record { timed = t; layout = c.args.layout.now }) c.in_ok-nodes.ensures in
    subst (λ (at : Scheduled). IfErr c.mapped.result (IsSpaceFault at.timed)) same c.mapped.ensures.refused
