use Rattle.std.proofs.Common.{◌≡◌, ◌++◌, drop, map}
use Rattle.av_kinds.specs.Written.{program_of}
use Rattle.av_kinds.specs.inner.Shapes.{lane_shape_of}
use Rattle.av_kinds.specs.inner.Modules.{instances_by}
use Rattle.av_kinds.proofs.planning.instances.Given as goal

abbrev pub invariant-loop-cell : goal.invariant-loop-cell
invariant-loop-cell l = l.instances ++ instances_by l.counter (program_of l.program) (map (map lane_shape_of) l.shapes) l.cell (drop l.cell l.program.cells) (drop l.cell l.program.kinds) ≡ instances_by l.counter (program_of l.program) (map (map lane_shape_of) l.shapes) 0 l.program.cells l.program.kinds
