use Rattle.std.proofs.Common.{◌++◌, ◌<◌, length, map, arith}
use Rattle.av_kinds.specs.Written.{program_of, lane_of}
use Rattle.av_kinds.specs.Names.{labels}
use Rattle.av_kinds.specs.inner.Instances.{lanes_operands}
use Rattle.av_kinds.specs.inner.Shapes.{lane_shape_of}
use Rattle.av_kinds.proofs.InstanceSteps.{lane_put, suits_many, suits_lane, lane_there_at}
use Rattle.av_kinds.proofs.instance.add_lanes.Goals as goal

pub bounds-lanes-k : goal.bounds-lanes-k
bounds-lanes-k c = omega (arith, c.loop-k-test.true, suits_many c.args.shape.now c.args.lanes.now c.requires.suit)

pub add_lane-requires-clause-suit : goal.add_lane-requires-clause-suit
add_lane-requires-clause-suit c =
    let within : c.loop-k.k < length c.args.lanes.now = omega (arith, c.loop-k-test.true, suits_many c.args.shape.now c.args.lanes.now c.requires.suit) in
    suits_lane c.args.shape.now c.args.lanes.now c.requires.suit c.loop-k.k c.index-shape-k.result c.index-lanes-k.result c.loop-k-test.true c.index-shape-k.is within c.index-lanes-k.is

pub add_lane-requires-clause-there : goal.add_lane-requires-clause-there
add_lane-requires-clause-there c =
    let within : c.loop-k.k < length c.args.lanes.now = omega (arith, c.loop-k-test.true, suits_many c.args.shape.now c.args.lanes.now c.requires.suit) in
    lane_there_at (length c.args.program.now.lanes) c.args.lanes.now c.requires.there c.loop-k.k c.index-lanes-k.result within c.index-lanes-k.is

pub loop-k-preserved : goal.loop-k-preserved
loop-k-preserved c =
    let names = labels (program_of c.args.program.now) in
    let within : c.loop-k.k < length c.args.lanes.now = omega (arith, c.loop-k-test.true, suits_many c.args.shape.now c.args.lanes.now c.requires.suit) in
    lane_put names c.args.shape.now c.args.lanes.now c.loop-k.k c.index-shape-k.result c.index-lanes-k.result c.loop-k.operands c.add_lane.new.operands (c.args.operands.now ++ lanes_operands names (map lane_shape_of c.args.shape.now) (map lane_of c.args.lanes.now))
    c.loop-k-test.true c.index-shape-k.is within c.index-lanes-k.is c.loop-k.invariant c.in_ok-add_lane.ensures
