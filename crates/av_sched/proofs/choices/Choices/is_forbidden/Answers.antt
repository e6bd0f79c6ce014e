use Rattle.std.proofs.Common.{sym, subst, List, All}
use Rattle.av_flat.specs.Trees.{view_system}
use Rattle.av_sched.specs.declared.arc.Arc.{Arc}
use Rattle.av_sched.specs.Arcs.{IsArc, Solves}
use Rattle.av_sched.specs.inner.Rounds.{zeros}
use Rattle.av_sched.specs.Choices.{AreLinearParts}
use Rattle.av_sched.specs.Witnesses.{IsWitness}
use Rattle.av_sched.specs.inner.Walk.{IsForbidden}
use Rattle.av_sched.specs.inner.Walks.{Choices, system_of}
use Rattle.av_sched.proofs.Inside.{vectors_of}
use Rattle.av_sched.proofs.Witnesses.{never, usable_witnesses, witnesses_fit, forbidden_here}
use Rattle.av_sched.proofs.choices.Choices.is_forbidden.Goals as goal

pub witness_arcs-requires : goal.witness_arcs-requires
witness_arcs-requires c =
    let s = view_system c.self.inside.flat.now in
    let parts = subst (λ (d : Choices). AreLinearParts (system_of d) d.size c.args.linear.now) (sym c.self.view_is) c.requires.linear in
    let pool = subst (λ (d : Choices). All (IsWitness d.edges d.component) c.args.pool.now) (sym c.self.view_is) c.requires.pool in
    usable_witnesses s c.self.inside.edges.now c.self.inside.component.now c.args.linear.now c.self.invariant.chained c.self.invariant.proper c.self.invariant.edges (vectors_of s c.self.inside.reach.size c.args.linear.now c.self.inside.reach.most parts) c.args.pool.now pool

pub settles-requires : goal.settles-requires
settles-requires c =
    let s = view_system c.self.inside.flat.now in
    subst (All (IsArc c.args.level)) (sym c.deref.ensures.value)
    (witnesses_fit s c.self.inside.edges.now c.self.inside.component.now c.args.level c.args.linear.now c.self.invariant.chained c.self.invariant.edges c.witness_arcs.new.arcs.items (c.in_ok-witness_arcs.ensures c.self.inside.edges.now (subst (λ (d : Choices). All (IsWitness d.edges d.component) c.args.pool.now) (sym c.self.view_is) c.requires.pool)))

pub returns : goal.returns
returns c = λ t.
    let s = view_system c.self.inside.flat.now in
    subst (λ (d : Choices). IsForbidden (system_of d) d.component c.args.level c.args.linear.now) c.self.view_is
    (forbidden_here s c.self.inside.edges.now c.self.inside.component.now c.args.level c.args.linear.now c.self.invariant.chained c.self.invariant.edges c.witness_arcs.new.arcs.items (c.in_ok-witness_arcs.ensures c.self.inside.edges.now (subst (λ (d : Choices). All (IsWitness d.edges d.component) c.args.pool.now) (sym c.self.view_is) c.requires.pool))
    (λ x g. c.in_ok-settled.ensures (never c.in_ok-settled.settled t) x (subst (λ (arcs : List Arc). Solves arcs (zeros c.args.level) x) (sym c.deref.ensures.value) g)))
