use Rattle.std.proofs.Common.{map, ap, arith}
use Rattle.std.proofs.lemmas.List.{length-map}
use Rattle.std.proofs.lemmas.Result.{on_ok_weaker}
use Rattle.av_kinds.specs.inner.Shapes.{LaneShapeMade, mode_shape_of, lane_shape_of}
use Rattle.av_kinds.specs.inner.Numbers.{counts_of}
use Rattle.av_kinds.proofs.KindSteps.{lane_shape_at, modes_have_taps, last_has_taps, lane_with_ports}
use Rattle.av_kinds.proofs.kind.add_lane_of.Goals as goal

pub add_lane-requires-clause-some : goal.add_lane-requires-clause-some
add_lane-requires-clause-some c =
    let is = lane_shape_at c.args.shape.now c.args.number c.index-shape-number.result c.requires.shape c.requires.there c.index-shape-number.is in
    omega (arith, is.some, length-map c.index-shape-number.result.modes mode_shape_of)

pub add_lane-requires-2-clause-modes : goal.add_lane-requires-2-clause-modes
add_lane-requires-2-clause-modes c =
    modes_have_taps (map lane_shape_of c.args.shape.now) c.args.number (counts_of c.args.interface.now) (lane_shape_of c.index-shape-number.result) c.in_ok-own.own (lane_shape_at c.args.shape.now c.args.number c.index-shape-number.result c.requires.shape c.requires.there c.index-shape-number.is) c.in_ok-own.ensures.datapaths

pub add_lane-requires-2-clause-otherwise : goal.add_lane-requires-2-clause-otherwise
add_lane-requires-2-clause-otherwise c =
    last_has_taps (map lane_shape_of c.args.shape.now) c.args.number (counts_of c.args.interface.now) (lane_shape_of c.index-shape-number.result) c.in_ok-own.own (lane_shape_at c.args.shape.now c.args.number c.index-shape-number.result c.requires.shape c.requires.there c.index-shape-number.is) c.in_ok-own.ensures.datapaths

pub returns : goal.returns
returns c =
    on_ok_weaker c.add_lane-2.result
    (lane_with_ports c.args.counter.now c.args.shape.now c.args.number c.index-shape-number.result c.args.interface.now c.add_lane.new.self c.args.parts.now c.add_lane-2.new.parts c.lane.inside.width c.in_ok-name.name c.in_ok-own.own
    c.requires.there c.index-shape-number.is c.in_ok-own.ensures.ports c.in_ok-own.ensures.datapaths c.in_ok-name.ensures (ap (λ (l : LaneShapeMade). l.width) c.lane.view_is))
    c.add_lane-2.ensures
