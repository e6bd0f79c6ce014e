use Rattle.std.proofs.Common.{◌≡◌, ◌<◌, ◌≤◌, refl, subst, ℕ, length, not, IfOk, arith, rules}
use Rattle.std.proofs.lemmas.List.{length-map}
use Rattle.std.proofs.lemmas.List.Filters.{length-filter_both}
use Rattle.std.proofs.lemmas.Result.{IfOk-weaker}
use Rattle.std.proofs.lemmas.List.Elements.{All-weaker}
use Rattle.av_flat.specs.Trees.{Variable, view_variable, view_system}
use Rattle.av_flat.specs.Nodes.{is_node, nodes}
use Rattle.av_depend.specs.declared.edge.Edge.{Edge}
use Rattle.av_depend.specs.Components.{ReadsNode, IsJoined, AreComponents}
use Rattle.av_depend.proofs.Unique.{components_so}
use Rattle.av_sched.specs.Leads.{IsUsable}
use Rattle.av_sched.proofs.Usable.{usable}
use Rattle.av_sched.proofs.searching.components_of.Goals as goal

-- nodes are variables, and these stand in a list
pub overflow_cast-linear : goal.overflow_cast-linear
overflow_cast-linear c =
    let s = view_system c.args.flat.now in
    let kept = length-filter_both is_node (λ (v : Variable). not (is_node v)) (λ v. refl) s.variables in
    let all : length s.variables ≡ length c.args.flat.now.vars = length-map c.args.flat.now.vars view_variable in
    let most = c.len-most.ensures.most in
    let few : length (nodes s) ≤ 1073741824 = omega (arith, kept, all, most) in
    let each = c.requires.linear.one_each in
    let small : length c.args.linear.now ≤ 1073741824 = omega (arith, each, few) in
    search (rules, small)

pub components-requires-clause-consumers : goal.components-requires-clause-consumers
components-requires-clause-consumers c =
    let s = view_system c.args.flat.now in
    All-weaker (IsUsable c.args.linear.now) (λ (e : Edge). e.consumer < length c.args.linear.now) (λ e u. u.consumer_within) c.args.edges.now
    (usable s c.args.edges.now c.args.linear.now c.requires.chained c.requires.proper c.requires.edges c.requires.linear)

pub components-requires-clause-producers : goal.components-requires-clause-producers
components-requires-clause-producers c =
    let s = view_system c.args.flat.now in
    All-weaker (IsUsable c.args.linear.now) (λ (e : Edge). e.producer < length c.args.linear.now) (λ e u. u.producer_within) c.args.edges.now
    (usable s c.args.edges.now c.args.linear.now c.requires.chained c.requires.proper c.requires.edges c.requires.linear)

pub returns : goal.returns
returns c =
    let s = view_system c.args.flat.now in
    let edges = c.args.edges.now in
    let h : IfOk c.components.result (AreComponents (length (nodes s)) (IsJoined edges)) = subst (λ (n : ℕ). IfOk c.components.result (AreComponents n (IsJoined edges))) c.requires.linear.one_each c.components.ensures in
    IfOk-weaker c.components.result (AreComponents (length (nodes s)) (IsJoined edges)) (AreComponents (length (nodes s)) (ReadsNode s))
    (λ cs are. components_so (length (nodes s)) (IsJoined edges) (ReadsNode s) cs
    (λ u v a. (c.edges_join_nodes.ensures s edges u v c.requires.chained c.requires.edges).1 a)
    (λ u v a. (c.edges_join_nodes.ensures s edges u v c.requires.chained c.requires.edges).0 a) are) h
