use Rattle.std.proofs.Common.{◌∙◌, List, [], ◌∷◌, map, subst, sym, ap, rules}
use Rattle.std.specs.List.{AllByRecursion}
use Rattle.av_base.proofs.Lists.{each_append}
use Rattle.av_kinds.specs.inner.Shapes.{LaneShapeMade, IsKindShape, lane_shape_of}
use Rattle.av_kinds.specs.inner.Kinds.{kind_by}
use Rattle.av_kinds.specs.inner.Modules.{IsSmallKind, kinds_by}
use Rattle.av_kinds.proofs.PlanSteps.{shapes_seen, kind_put, kind_there}
use Rattle.av_kinds.proofs.planning.kinds.Goals as goal

pub kind-requires : goal.kind-requires
kind-requires c =
    let x = c.index-shapes-number.result in
    subst (λ (xs : List LaneShapeMade). IsKindShape (map lane_shape_of xs)) (sym c.as_slice.ensures) (kind_there c.args.shapes.now c.requires c.loop-number.number x (search rules) c.index-shapes-number.is)

pub loop-number-preserved : goal.loop-number-preserved
loop-number-preserved c =
    let x = c.index-shapes-number.result in
    let n = c.loop-number.number in
    let made = c.in_ok-kind.field-0 in
    record {
      are = kind_put c.args.shapes.now n x c.loop-number.kinds c.push.new.self (kinds_by 0 (shapes_seen c.args.shapes.now)) made (search rules) c.index-shapes-number.is c.loop-number.invariant.are
          (c.in_ok-kind.ensures.is ∙ ap (λ (xs : List LaneShapeMade). kind_by n (map lane_shape_of xs)) c.as_slice.ensures) c.in_ok-push.ensures.ok;
      small = subst (AllByRecursion IsSmallKind) (sym c.in_ok-push.ensures.ok) (each_append IsSmallKind c.loop-number.kinds (made ∷ []) c.loop-number.invariant.small (c.in_ok-kind.ensures.small, tt));
    }
