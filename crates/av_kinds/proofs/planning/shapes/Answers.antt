use Rattle.std.proofs.Common.{rules}
use Rattle.av_kinds.specs.Written.{program_of}
use Rattle.av_kinds.proofs.ShapeMade.{shapes_put, shapes_whole}
use Rattle.av_kinds.proofs.planning.shapes.Goals as goal

pub loop-number-preserved : goal.loop-number-preserved
loop-number-preserved c =
    shapes_put (program_of c.args.program.now) c.loop-number.number c.loop-number.shapes c.push.new.self c.in_ok-kind_shape.field-0 c.loop-number.invariant c.in_ok-kind_shape.ensures c.in_ok-push.ensures.ok

pub returns : goal.returns
returns c =
    shapes_whole (program_of c.args.program.now) c.requires c.loop-number.number c.kind_count-number-end.result c.loop-number.shapes (search rules) c.kind_count-number-end.ensures c.loop-number.invariant
