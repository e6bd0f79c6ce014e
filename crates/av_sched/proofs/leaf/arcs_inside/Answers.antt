use Rattle.std.proofs.Common.{rules, ◌<◌, refl, sym, subst, length, take, List, ◌++◌, ◌∷◌, [], arith}
use Rattle.std.proofs.lemmas.Grind.{common_steps}
use Rattle.av_depend.specs.declared.edge.Edge.{Edge}
use Rattle.av_sched.specs.inner.Walk.{AreArcsInside}
use Rattle.av_sched.proofs.Steps.{take_more}
use Rattle.av_sched.proofs.Inside.{inside_more, inside_same}
use Rattle.av_sched.proofs.leaf.arcs_inside.Goals as goal

pub loop-edge-preserved-then-not-is_in : goal.loop-edge-preserved-then-not-is_in
loop-edge-preserved-then-not-is_in c =
    let l : c.loop-edge.edge-index < length c.args.edges.now = search rules in
    let e = c.edge-item.result in
    subst (λ (xs : List Edge). AreArcsInside c.args.linear.now xs c.args.component.now c.loop-edge.arcs.items) (sym (take_more c.args.edges.now c.loop-edge.edge-index e e l c.edge-item.is refl))
    (inside_same c.args.linear.now c.args.component.now (take c.loop-edge.edge-index c.args.edges.now) e c.loop-edge.arcs.items (λ a b. let t = c.is_in.ensures.1 a in let f = c.if-not-is_in.true in cc) c.loop-edge.invariant)

pub loop-edge-preserved-then-not-is_in-2 : goal.loop-edge-preserved-then-not-is_in-2
loop-edge-preserved-then-not-is_in-2 c =
    let l : c.loop-edge.edge-index < length c.args.edges.now = search rules in
    let e = c.edge-item.result in
    subst (λ (xs : List Edge). AreArcsInside c.args.linear.now xs c.args.component.now c.loop-edge.arcs.items) (sym (take_more c.args.edges.now c.loop-edge.edge-index e e l c.edge-item.is refl))
    (inside_same c.args.linear.now c.args.component.now (take c.loop-edge.edge-index c.args.edges.now) e c.loop-edge.arcs.items (λ a b. let t = c.is_in-in-loop-edge.ensures.1 b in let f = c.if-not-is_in-2.true in cc) c.loop-edge.invariant)

pub loop-edge-preserved : goal.loop-edge-preserved
loop-edge-preserved c =
    let l : c.loop-edge.edge-index < length c.args.edges.now = search rules in
    let e = c.edge-item.result in
    let a = c.is_in.ensures.0 (search rules) in
    let b = c.is_in-in-loop-edge.ensures.0 (search rules) in
    rw c.in_ok-push.ensures.items
    (subst (λ (xs : List Edge). AreArcsInside c.args.linear.now xs c.args.component.now (c.loop-edge.arcs.items ++ c.arc_of.result ∷ [])) (sym (take_more c.args.edges.now c.loop-edge.edge-index e e l c.edge-item.is refl))
    (inside_more c.args.linear.now c.args.component.now (take c.loop-edge.edge-index c.args.edges.now) e c.loop-edge.arcs.items c.arc_of.result a b c.arc_of.ensures c.loop-edge.invariant))

pub returns : goal.returns
returns c = grind (arith, common_steps)
