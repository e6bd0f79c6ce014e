use Rattle.std.proofs.Common.{refl, sym, subst, List, Vec, Global, Option, IfSome, IfNone, IsTrue, true, false, ◌↔◌, ℤ, length}
use Rattle.av_flat.specs.Trees.{view_system}
use Rattle.av_sched.specs.declared.arc.Arc.{Arc}
use Rattle.av_sched.specs.Arcs.{Solves, IsLeastSolution}
use Rattle.av_sched.specs.Choices.{AreLinearParts, IsFeasible}
use Rattle.av_sched.specs.inner.Walks.{Choices, system_of}
use Rattle.av_sched.specs.inner.Walk.{AreArcsInside}
use Rattle.av_sched.proofs.Usable.{usable}
use Rattle.av_sched.proofs.Inside.{vectors_of, inner_fit, zeros_small, solved_here, unsolved_here}
use Rattle.av_sched.proofs.choices.Choices.is_feasible.Goals as goal

pub arcs_inside-requires : goal.arcs_inside-requires
arcs_inside-requires c =
    let s = view_system c.self.inside.flat.now in
    let parts = subst (λ (d : Choices). AreLinearParts (system_of d) d.size c.args.linear.now) (sym c.self.view_is) c.requires in
    usable s c.self.inside.edges.now c.args.linear.now c.self.invariant.chained c.self.invariant.proper c.self.invariant.edges (vectors_of s c.self.inside.reach.size c.args.linear.now c.self.inside.reach.most parts)

pub least-requires-clause-arcs : goal.least-requires-clause-arcs
least-requires-clause-arcs c =
    let s = view_system c.self.inside.flat.now in
    let parts = subst (λ (d : Choices). AreLinearParts (system_of d) d.size c.args.linear.now) (sym c.self.view_is) c.requires in
    let inside = subst (λ (xs : List Arc). AreArcsInside c.args.linear.now c.self.inside.edges.now c.self.inside.component.now xs) (sym c.deref.ensures.value) c.in_ok-arcs.ensures in
    inner_fit s c.self.inside.reach.size c.self.inside.edges.now c.self.inside.component.now c.args.linear.now c.deref.result.now c.self.invariant.chained c.self.invariant.proper c.self.invariant.edges c.self.inside.reach.most parts inside c.in_ok-low.low c.in_ok-low.ensures

pub least-requires-clause-low : goal.least-requires-clause-low
least-requires-clause-low c = zeros_small c.in_ok-low.low (length c.args.linear.now) c.in_ok-low.ensures

pub returns-in-Some : goal.returns-in-Some
returns-in-Some c =
    let s = view_system c.self.inside.flat.now in
    let parts = subst (λ (d : Choices). AreLinearParts (system_of d) d.size c.args.linear.now) (sym c.self.view_is) c.requires in
    let inside = subst (λ (xs : List Arc). AreArcsInside c.args.linear.now c.self.inside.edges.now c.self.inside.component.now xs) (sym c.deref.ensures.value) c.in_ok-arcs.ensures in
    let h = subst (λ (o : Option (Vec ℤ Global)). IfSome o (λ off. IsLeastSolution c.deref.result.now c.in_ok-low.low off.items)) c.in-Some.is c.in_ok-least.ensures.some in
    let f = solved_here s c.self.inside.reach.size c.self.inside.edges.now c.self.inside.component.now c.args.linear.now c.deref.result.now c.self.invariant.chained c.self.invariant.proper c.self.invariant.edges c.self.inside.reach.most parts inside c.in_ok-low.low c.in-Some.field-0.items c.in_ok-low.ensures h in
    subst (λ (d : Choices). IsTrue true ↔ IsFeasible (system_of d) d.component c.args.linear.now) c.self.view_is ((λ t. f), (λ g. refl))

pub returns : goal.returns
returns c =
    let s = view_system c.self.inside.flat.now in
    let parts = subst (λ (d : Choices). AreLinearParts (system_of d) d.size c.args.linear.now) (sym c.self.view_is) c.requires in
    let inside = subst (λ (xs : List Arc). AreArcsInside c.args.linear.now c.self.inside.edges.now c.self.inside.component.now xs) (sym c.deref.ensures.value) c.in_ok-arcs.ensures in
    let h = subst (λ (o : Option (Vec ℤ Global)). IfNone o ((x : List ℤ) → Solves c.deref.result.now c.in_ok-low.low x → ⊥)) c.in-None.is c.in_ok-least.ensures.none in
    let f = unsolved_here s c.self.inside.reach.size c.self.inside.edges.now c.self.inside.component.now c.args.linear.now c.deref.result.now c.self.invariant.chained c.self.invariant.proper c.self.invariant.edges c.self.inside.reach.most parts inside c.in_ok-low.low c.in_ok-low.ensures h in
    subst (λ (d : Choices). IsTrue false ↔ IsFeasible (system_of d) d.component c.args.linear.now) c.self.view_is ((λ t. absurd cc), (λ g. absurd (f g)))
