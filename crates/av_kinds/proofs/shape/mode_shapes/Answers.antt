use Rattle.av_kinds.proofs.ShapeSteps.{seen_at, mode_put}
use Rattle.std.proofs.Common.{◌∙◌, Option, ap, rules, map}
use Rattle.std.specs.Borrow.{Bor}
use Rattle.av_kinds.specs.Written.{mode_of}
use Rattle.av_kinds.specs.inner.Shapes.{ModeShape, ModeShapeMade, mode_shape_of}
use Rattle.av_kinds.specs.inner.Shaped.{mode_shape_by, mode_shapes}
use Rattle.av_kinds.proofs.shape.mode_shapes.Goals as goal

pub loop-number-preserved : goal.loop-number-preserved
loop-number-preserved c =
    let k = c.loop-number.number in
    let x = c.index-modes-number.result in
    mode_put c.args.before.now c.args.modes.now k x c.loop-number.shapes c.push.new.self (mode_shapes (map mode_shape_of c.args.before.now) 0 (map mode_of c.args.modes.now)) c.in_ok-mode_shape.field-0
    (search rules) c.index-modes-number.is c.loop-number.invariant
    (c.in_ok-mode_shape.ensures ∙ ap (λ (o : Option ModeShape). mode_shape_by o k (mode_of x)) (seen_at mode_shape_of (λ (m : Bor ModeShapeMade). m.now) c.args.before.now k c.get.result c.get.ensures.lookup))
    c.in_ok-push.ensures.ok
