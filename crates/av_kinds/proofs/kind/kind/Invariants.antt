use Rattle.std.proofs.Common.{◌≡◌, map}
use Rattle.av_net.specs.declared.operation.Operand.TheVariants.{Name}
use Rattle.av_kinds.specs.Names.{kind_counter}
use Rattle.av_kinds.specs.inner.Shapes.{lane_shape_of}
use Rattle.av_kinds.proofs.Writing.{IsKindFrom}
use Rattle.av_kinds.proofs.kind.kind.Given as goal

abbrev pub invariant-loop-lane : goal.invariant-loop-lane
invariant-loop-lane l = record {
  counter : l.counter ≡ Name kind_counter;
  made : IsKindFrom (Name kind_counter) (map lane_shape_of l.shape) l.lane l.interface l.parts;
}
