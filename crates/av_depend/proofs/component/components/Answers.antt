use Rattle.std.proofs.Common.{rules, sym, ap, subst, ◌∙◌, ◌<◌, ◌≤◌, ◌+◌, Bool, List, length, arith}
use Rattle.std.proofs.lemmas.Grind.{common_steps, elements}
use Rattle.av_depend.specs.Components.{first_node, IsJoined}
use Rattle.av_depend.specs.inner.Reaching.{IsComponentIn}
use Rattle.av_depend.proofs.Together.{component_is, some, AreComponentsTo, components_more, components_skip, components_all}
use Rattle.av_depend.proofs.component.components.Goals as goal

pub first_of-requires : goal.first_of-requires
first_of-requires c =
    let l : c.loop-node.node < c.args.nodes = search rules in
    let R = IsJoined c.args.edges.now in
    let component = subst (λ (rows : List (List Bool)). IsComponentIn c.args.nodes rows c.loop-node.node c.in_ok-component.component) c.as_slice.ensures c.in_ok-component.ensures in
    let h = component_is c.args.nodes R c.in_ok-rows.rows c.loop-node.node c.in_ok-component.component l c.in_ok-rows.ensures component in
    let e = ap length c.as_slice-in-loop-node.ensures in
    let s = some c.args.nodes R c.loop-node.node c.in_ok-component.component l h in
    omega (arith, e, s)

pub loop-node-preserved-then-first_of-node : goal.loop-node-preserved-then-first_of-node
loop-node-preserved-then-first_of-node c =
    let l : c.loop-node.node < c.args.nodes = search rules in
    let R = IsJoined c.args.edges.now in
    let component = subst (λ (rows : List (List Bool)). IsComponentIn c.args.nodes rows c.loop-node.node c.in_ok-component.component) c.as_slice.ensures c.in_ok-component.ensures in
    let h = component_is c.args.nodes R c.in_ok-rows.rows c.loop-node.node c.in_ok-component.component l c.in_ok-rows.ensures component in
    let e = c.first_of.ensures ∙ ap first_node c.as_slice-in-loop-node.ensures in
    components_skip c.args.nodes c.loop-node.node R c.loop-node.list c.in_ok-component.component l c.loop-node.invariant h (λ same. c.if-first_of-node.true (e ∙ same))

pub loop-node-preserved : goal.loop-node-preserved
loop-node-preserved c =
    let l : c.loop-node.node < c.args.nodes = search rules in
    let R = IsJoined c.args.edges.now in
    let component = subst (λ (rows : List (List Bool)). IsComponentIn c.args.nodes rows c.loop-node.node c.in_ok-component.component) c.as_slice.ensures c.in_ok-component.ensures in
    let h = component_is c.args.nodes R c.in_ok-rows.rows c.loop-node.node c.in_ok-component.component l c.in_ok-rows.ensures component in
    let e = ap first_node (sym c.as_slice-in-loop-node.ensures) ∙ sym c.first_of.ensures ∙ c.if-first_of-node.false in
    subst (AreComponentsTo c.args.nodes R (c.loop-node.node + 1)) (sym c.in_ok-push.ensures.ok)
    (components_more c.args.nodes c.loop-node.node R c.loop-node.list c.in_ok-component.component l c.loop-node.invariant h e)

pub returns : goal.returns
returns c =
    let over : c.args.nodes ≤ c.loop-node.node = search rules in
    components_all c.args.nodes c.loop-node.node (IsJoined c.args.edges.now) c.loop-node.list over c.loop-node.invariant

pub component_of-requires-clause-square : goal.component_of-requires-clause-square
component_of-requires-clause-square c = grind (arith, elements)

pub loop-node-init : goal.loop-node-init
loop-node-init c = grind (arith, common_steps)
