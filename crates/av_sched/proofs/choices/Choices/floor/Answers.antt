use Rattle.std.proofs.Common.{◌≡◌, ◌≤◌, length, refl, sym, subst, arith}
use Rattle.av_flat.specs.Trees.{view_system}
use Rattle.av_sched.specs.inner.Walks.{Choices, IsFloorFrom}
use Rattle.av_sched.proofs.Pricing.{floor_at}
use Rattle.av_sched.proofs.choices.Choices.floor.Goals as goal

pub overflow_sub-remaining : goal.overflow_sub-remaining
overflow_sub-remaining c =
    let here : c.args.level ≤ length c.self.inside.component.now = subst (λ (d : Choices). c.args.level ≤ length d.component) (sym c.self.view_is) c.requires in
    omega (arith, here)

pub index-requires : goal.index-requires
index-requires c =
    let floors = c.self.inside.plan.floors in
    let one = c.self.invariant.floors.one_each in
    let long : floors.len ≡ length floors.items = floors.ok.0 in
    omega (arith, one, long)

pub returns : goal.returns
returns c =
    let d = c.self.inside in
    let level = c.args.level in
    let here = subst (λ (x : Choices). level ≤ length x.component) (sym c.self.view_is) c.requires in
    subst (λ (x : Choices). IsFloorFrom x level c.index.result.now) c.self.view_is
    (floor_at (view_system d.flat.now) d.reach.size d.component.now d.plan.floors.items level _ c.index.result.now c.self.invariant.floors here refl c.index.ensures)
