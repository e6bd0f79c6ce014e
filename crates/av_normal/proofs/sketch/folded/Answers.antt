use Rattle.std.proofs.Common.{ap}
use Rattle.av_flat.specs.Trees.{view}
use Rattle.av_normal.proofs.Sketches.{folded_sketch, folded_readable}
use Rattle.av_normal.proofs.sketch.folded.Goals as goal

pub returns-clause-sketch : goal.returns-clause-sketch
returns-clause-sketch c = folded_readable c.args.op _ (view c.reduction.result) (view c.in_ok-body.body.value) _ c.reduction.ensures (ap view c.in_ok-body.ensures.ok)

pub returns-clause-same : goal.returns-clause-same
returns-clause-same c = folded_sketch c.args.op _ (view c.reduction.result) (view c.in_ok-body.body.value) _ c.reduction.ensures
