use Rattle.std.proofs.Common.{◌≡◌, ◌∙◌, ℤ, [], ◌∷◌, ◌++◌, ◌+◌, w64, FitsSigned, to_z-of_z, length, rules, arith, sym, ap, subst}
use Rattle.std.proofs.Math.IntN.{neg_ℤ, neg_ℤ-neg_ℤ}
use Rattle.av_affine.specs.Numbers.{AtMost}
use Rattle.av_flat.specs.declared.flat.Flat.{Flat}
use Rattle.av_flat.specs.Nodes.{nodes}
use Rattle.av_flat.specs.Trees.{view_variable, view_system}
use Rattle.av_sched.specs.Offsets.{part}
use Rattle.av_sched.proofs.Started.{IsStarted, started_node, all_started}
use Rattle.av_sched.proofs.Starting.{starting_node}
use Rattle.av_sched.proofs.placing.starts_of.Goals as goal
use Rattle.av_base.proofs.Lists.{same_default}

pub bounds-linear-node : goal.bounds-linear-node
bounds-linear-node c = (starting_node c.args.flat.now c.in_ok-nodes.nodes c.args.linear.now c.loop-node.node (view_variable c.variable-var.result.now) c.in_ok-nodes.ensures c.variable-var.ensures c.requires.chained c.requires.linear).within

pub offset_bounds-linear-node : goal.offset_bounds-linear-node
offset_bounds-linear-node c =
    let within = (starting_node c.args.flat.now c.in_ok-nodes.nodes c.args.linear.now c.loop-node.node (view_variable c.variable-var.result.now) c.in_ok-nodes.ensures c.variable-var.ensures c.requires.chained c.requires.linear).within in
    omega arith

pub start_of-requires-clause-ordinary : goal.start_of-requires-clause-ordinary
start_of-requires-clause-ordinary c = (starting_node c.args.flat.now c.in_ok-nodes.nodes c.args.linear.now c.loop-node.node (view_variable c.variable-var.result.now) c.in_ok-nodes.ensures c.variable-var.ensures c.requires.chained c.requires.linear).ordinary

pub start_of-requires-clause-dim : goal.start_of-requires-clause-dim
start_of-requires-clause-dim c = (starting_node c.args.flat.now c.in_ok-nodes.nodes c.args.linear.now c.loop-node.node (view_variable c.variable-var.result.now) c.in_ok-nodes.ensures c.variable-var.ensures c.requires.chained c.requires.linear).few

pub start_of-requires-clause-some : goal.start_of-requires-clause-some
start_of-requires-clause-some c = (starting_node c.args.flat.now c.in_ok-nodes.nodes c.args.linear.now c.loop-node.node (view_variable c.variable-var.result.now) c.in_ok-nodes.ensures c.variable-var.ensures c.requires.chained c.requires.linear).some

pub start_of-requires-clause-size : goal.start_of-requires-clause-size
start_of-requires-clause-size c =
    let r = starting_node c.args.flat.now c.in_ok-nodes.nodes c.args.linear.now c.loop-node.node (view_variable c.variable-var.result.now) c.in_ok-nodes.ensures c.variable-var.ensures c.requires.chained c.requires.linear in
    ap length (c.index-linear-node.is ∙ same_default c.args.linear.now c.loop-node.node c.index-linear-node.result [] r.within) ∙ r.size

pub start_of-requires-clause-linear : goal.start_of-requires-clause-linear
start_of-requires-clause-linear c =
    let r = starting_node c.args.flat.now c.in_ok-nodes.nodes c.args.linear.now c.loop-node.node (view_variable c.variable-var.result.now) c.in_ok-nodes.ensures c.variable-var.ensures c.requires.chained c.requires.linear in
    subst (AtMost 4) (sym (c.index-linear-node.is ∙ same_default c.args.linear.now c.loop-node.node c.index-linear-node.result [] r.within)) r.entries

pub start_of-requires-clause-points : goal.start_of-requires-clause-points
start_of-requires-clause-points c = (starting_node c.args.flat.now c.in_ok-nodes.nodes c.args.linear.now c.loop-node.node (view_variable c.variable-var.result.now) c.in_ok-nodes.ensures c.variable-var.ensures c.requires.chained c.requires.linear).points

pub loop-node-preserved : goal.loop-node-preserved
loop-node-preserved c =
    let s = view_system c.args.flat.now in
    let n = c.loop-node.node in
    let linear = c.args.linear.now in
    let r = starting_node c.args.flat.now c.in_ok-nodes.nodes c.args.linear.now c.loop-node.node (view_variable c.variable-var.result.now) c.in_ok-nodes.ensures c.variable-var.ensures c.requires.chained c.requires.linear in
    let p : c.index-linear-node.result ≡ part linear n = c.index-linear-node.is ∙ same_default linear n c.index-linear-node.result [] r.within in
    let x = c.in_ok-start.start in
    let f : FitsSigned w64 x = search rules in
    let new = started_node s linear n c.loop-node.low (view_variable c.variable-var.result.now) c.index-linear-node.result (neg_ℤ x) r.is p c.in_ok-start.ensures c.loop-node.invariant in
    let e = simp to_z-of_z at c.in_ok-push.ensures.ok in
    rw e (subst (λ (y : ℤ). IsStarted s linear (n + 1) (c.loop-node.low ++ y ∷ [])) (neg_ℤ-neg_ℤ x) new)

pub returns-clause-starts : goal.returns-clause-starts
returns-clause-starts c =
    let many = c.len-node-end.ensures.count ∙ ap (λ (f : Flat). length (nodes (view_system f))) c.in_ok-nodes.ensures in
    all_started (view_system c.args.flat.now) c.args.linear.now c.loop-node.node c.loop-node.low (omega (arith, c.loop-node-test.false, c.loop-node.auto.node-end, many)) c.loop-node.invariant
