use Rattle.std.proofs.Common.{rules, ◌+◌, ◌<◌, ◌≤◌, length, take, sym, subst}
use Rattle.std.proofs.lemmas.Option.{slice_get_within}
use Rattle.av_flat.specs.declared.timed.Timed.{Timed}
use Rattle.av_flat.specs.Nodes.{nodes}
use Rattle.av_flat.specs.Trees.{view_system, view_variable}
use Rattle.av_space.specs.inner.Laying.{AreNodePoints}
use Rattle.av_space.specs.inner.Showing.{AreLinesTo}
use Rattle.av_space.proofs.ShownLines.{outputs_rise, first_point, next_point, whole_node}
use Rattle.av_space.proofs.shown.add_lines.Goals as goal

pub node_points-requires : goal.node_points-requires
node_points-requires c =
    let shown = c.args.shown.now in
    let s = view_system shown.scheduled.now.timed.flat in
    subst (λ (t : Timed). shown.node.0 < length (nodes (view_system t.flat))) (sym c.timed.ensures.is) (slice_get_within (nodes s) shown.node.0 (view_variable shown.var.now) c.requires.node.is_variable)

pub loop-z-init : goal.loop-z-init
loop-z-init c =
    let shown = c.args.shown.now in
    first_point (view_system shown.scheduled.now.timed.flat) shown.scheduled.now.layout.placements shown.scheduled.now.layout.cells shown.outputs.now shown.node.0 c.as_slice-z-items.result.now c.args.lines.now c.requires.old

pub loop-z-preserved : goal.loop-z-preserved
loop-z-preserved c =
    let shown = c.args.shown.now in
    let s = view_system shown.scheduled.now.timed.flat in
    let points = c.as_slice-z-items.result.now in
    let are : AreNodePoints s shown.node.0 points = subst (AreNodePoints s shown.node.0) (sym c.as_slice-z-items.ensures) (subst (λ (t : Timed). AreNodePoints (view_system t.flat) shown.node.0 c.in_ok-points.points) c.timed.ensures.is c.in_ok-points.ensures.points) in
    let within : c.loop-z.z-index < length points = search rules in
    let line = c.in_ok-line.ensures in
    subst (AreLinesTo shown.scheduled.now shown.outputs.now shown.node.0 (take (c.loop-z.z-index + 1) points)) (sym c.in_ok-push.ensures.ok)
    (next_point s shown.scheduled.now.layout.placements shown.scheduled.now.layout.cells shown.outputs.now c.requires.node.scheduled.layout.are_cells (outputs_rise s shown.scheduled.now.layout.cells shown.outputs.now c.requires.node.outputs)
    shown.node.0 c.loop-z.z-index points c.z-item.result c.loop-z.lines c.in_ok-line.field-0 are.ascending within c.z-item.is line.0 line.1 c.loop-z.invariant)

pub returns : goal.returns
returns c =
    let shown = c.args.shown.now in
    let s = view_system shown.scheduled.now.timed.flat in
    let points = c.as_slice-z-items.result.now in
    let are : AreNodePoints s shown.node.0 points = subst (AreNodePoints s shown.node.0) (sym c.as_slice-z-items.ensures) (subst (λ (t : Timed). AreNodePoints (view_system t.flat) shown.node.0 c.in_ok-points.points) c.timed.ensures.is c.in_ok-points.ensures.points) in
    let over : length points ≤ c.loop-z.z-index = search rules in
    whole_node s shown.scheduled.now.layout.placements shown.scheduled.now.layout.cells shown.outputs.now shown.node.0 c.loop-z.z-index points c.loop-z.lines are over c.loop-z.invariant
