use Rattle.av_kinds.proofs.ShapeSteps.{seen_at, lane_put}
use Rattle.std.proofs.Common.{◌∙◌, Option, ap, rules, map}
use Rattle.std.specs.Borrow.{Bor}
use Rattle.av_kinds.specs.Written.{lane_of}
use Rattle.av_kinds.specs.inner.Shapes.{LaneShape, LaneShapeMade, lane_shape_of}
use Rattle.av_kinds.specs.inner.Shaped.{lane_shape_by, lane_shapes}
use Rattle.av_kinds.proofs.shape.lane_shapes.Goals as goal

pub loop-k-preserved : goal.loop-k-preserved
loop-k-preserved c =
    let k = c.loop-k.k in
    let x = c.index-lanes-k.result in
    lane_put c.args.before.now c.args.lanes.now k x c.loop-k.shapes c.push.new.self (lane_shapes (map lane_shape_of c.args.before.now) (map lane_of c.args.lanes.now)) c.in_ok-lane_shape.field-0
    (search rules) c.index-lanes-k.is c.loop-k.invariant
    (c.in_ok-lane_shape.ensures ∙ ap (λ (o : Option LaneShape). lane_shape_by o (lane_of x)) (seen_at lane_shape_of (λ (m : Bor LaneShapeMade). m.now) c.args.before.now k c.get.result c.get.ensures.lookup))
    c.in_ok-push.ensures.ok
