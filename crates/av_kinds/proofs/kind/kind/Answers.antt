use Rattle.std.proofs.Common.{◌≤◌, ◌+◌, length, map, refl, subst, arith, rules}
use Rattle.std.proofs.lemmas.List.{length-map}
use Rattle.av_net.specs.declared.operation.Operand.{Operand}
use Rattle.av_net.specs.declared.operation.Operand.TheVariants.{Name}
use Rattle.av_kinds.specs.Names.{kind_counter}
use Rattle.av_kinds.specs.inner.Shapes.{lane_shape_of}
use Rattle.av_kinds.specs.inner.Lanes.{AddsLaneOf}
use Rattle.av_kinds.proofs.Writing.{lane_more, kind_opened, kind_whole}
use Rattle.av_kinds.proofs.KindSteps.{kind_made}
use Rattle.av_kinds.proofs.kind.kind.Goals as goal

pub loop-lane-init : goal.loop-lane-init
loop-lane-init c = record {
  counter = c.in_ok-counter.ensures;
  made = kind_opened (Name kind_counter) (map lane_shape_of c.args.shape.now) c.in_ok-interface.interface c.no_parts-parts.result c.in_ok-interface.ensures c.no_parts-parts.ensures;
}

pub loop-lane-preserved : goal.loop-lane-preserved
loop-lane-preserved c =
    let all = map lane_shape_of c.args.shape.now in
    let k = c.loop-lane.lane in
    record {
      counter = c.loop-lane.invariant.counter;
      made = lane_more (Name kind_counter) all k (k + 1) c.loop-lane.interface c.add_lane_of.new.interface c.loop-lane.parts c.add_lane_of.new.parts refl c.loop-lane.invariant.made
          (subst (λ (a : Operand). AddsLaneOf a all k c.loop-lane.interface c.add_lane_of.new.interface c.loop-lane.parts c.add_lane_of.new.parts) c.loop-lane.invariant.counter c.in_ok-add_lane_of.ensures);
    }

pub returns-clause-is : goal.returns-clause-is
returns-clause-is c =
    let shape = c.args.shape.now in
    let all = map lane_shape_of shape in
    let end : length shape ≤ c.loop-lane.lane = search rules in
    let most : length all ≤ c.loop-lane.lane = omega (arith, end, length-map shape lane_shape_of) in
    kind_made c.args.number all c.loop-lane.interface c.loop-lane.parts c.in_ok-numbered.field-0 c.in_ok-numbered.ensures
    (kind_whole (Name kind_counter) all c.loop-lane.lane c.loop-lane.interface c.loop-lane.parts most c.loop-lane.invariant.made)
