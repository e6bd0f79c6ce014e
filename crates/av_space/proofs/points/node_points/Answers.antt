use Rattle.av_flat.specs.Trees.{view_system, view_variable}
use Rattle.std.proofs.lemmas.Result.{IfOk-weaker}
use Rattle.av_depend.specs.AllPoints.{AreAllPoints}
use Rattle.av_space.specs.inner.Laying.{AreNodePoints}
use Rattle.av_flat.proofs.NodeNumbers.{chained_node}
use Rattle.av_space.proofs.Nodes.{points_of_node}
use Rattle.av_space.proofs.points.node_points.Goals as goal

pub points_of-requires : goal.points_of-requires
points_of-requires c =
    let h = chained_node (view_system c.args.timed.now.flat) c.args.node.0 (view_variable c.variable.result.now) c.variable.ensures.legal.chained c.variable.ensures.is in
    record { indices = h.indices; rows = h.rows; bounded = h.bounded }

pub returns-clause-points : goal.returns-clause-points
returns-clause-points c =
    let s = view_system c.args.timed.now.flat in
    let v = view_variable c.variable.result.now in
    IfOk-weaker c.points_of.result (AreAllPoints v.domain) (AreNodePoints s c.args.node.0) (λ points. points_of_node s c.args.node.0 v points c.variable.ensures.is) c.points_of.ensures
