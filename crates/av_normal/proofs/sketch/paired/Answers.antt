use Rattle.std.proofs.Common.{ap}
use Rattle.av_tree.specs.declared.sign.Sign.TheVariants.{Add}
use Rattle.av_flat.specs.Trees.{view}
use Rattle.av_normal.proofs.Sketches.{paired_sketch, paired_readable}
use Rattle.av_normal.proofs.sketch.paired.Goals as goal

pub returns-clause-sketch : goal.returns-clause-sketch
returns-clause-sketch c =
    paired_readable Add (view c.binary.result) (view c.in_ok-left.left.value) (view c.in_ok-right.right.value) (view c.args.first) (view c.args.second) c.binary.ensures (ap view c.in_ok-left.ensures.ok) (ap view c.in_ok-right.ensures.ok)
    c.requires.first c.requires.second

pub returns-clause-same : goal.returns-clause-same
returns-clause-same c =
    paired_sketch Add (view c.binary.result) (view c.in_ok-left.left.value) (view c.in_ok-right.right.value) (view c.args.first) (view c.args.second) c.binary.ensures (ap view c.in_ok-left.ensures.ok) (ap view c.in_ok-right.ensures.ok)
