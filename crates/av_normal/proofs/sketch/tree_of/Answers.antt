use Rattle.std.proofs.Common.{ap, refl}
use Rattle.av_flat.specs.Trees.{view}
use Rattle.av_normal.proofs.Sketches.{restricted_sketch, restricted_readable}
use Rattle.av_normal.proofs.sketch.tree_of.Goals as goal

pub returns-in_ok-body-in-One-clause-readable : goal.returns-in_ok-body-in-One-clause-readable
returns-in_ok-body-in-One-clause-readable c =
    restricted_readable (view c.restriction.result) (view c.in_ok-body-in-One.body.value) _ c.restriction.ensures (ap view c.in_ok-body-in-One.ensures.ok)

pub returns-in_ok-body-in-One-clause-same : goal.returns-in_ok-body-in-One-clause-same
returns-in_ok-body-in-One-clause-same c =
    rw c.in-One.is (restricted_sketch (view c.restriction.result) (view c.in_ok-body-in-One.body.value) _ c.in-One.rows c.restriction.ensures (ap view c.in_ok-body-in-One.ensures.ok) refl)
