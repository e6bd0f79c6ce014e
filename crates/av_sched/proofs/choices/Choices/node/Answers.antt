use Rattle.std.proofs.Common.{◌<◌, length, sym, ap, subst, arith}
use Rattle.av_sched.specs.inner.Walks.{Choices, node_at}
use Rattle.av_sched.proofs.choices.Choices.node.Goals as goal

pub bounds-component-level : goal.bounds-component-level
bounds-component-level c = subst (λ (d : Choices). c.args.level < length d.component) (sym c.self.view_is) c.requires

pub offset_bounds-component-level : goal.offset_bounds-component-level
offset_bounds-component-level c =
    let within : c.args.level < length c.self.inside.component.now = subst (λ (d : Choices). c.args.level < length d.component) (sym c.self.view_is) c.requires in
    omega arith

pub returns : goal.returns
returns c = ap (λ (d : Choices). node_at d c.args.level) c.self.view_is
