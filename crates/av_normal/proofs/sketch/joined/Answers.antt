use Rattle.std.proofs.Common.{◌∙◌, [], List, Bool, ap}
use Rattle.av_affine.specs.declared.form.Form.{Form}
use Rattle.av_flat.specs.Trees.{view}
use Rattle.av_normal.specs.inner.Sketches.{sketches, side_by_side}
use Rattle.av_normal.proofs.Outcomes.{if_ok}
use Rattle.av_normal.proofs.sketch.joined.Goals as goal

pub returns-in-One-clause-same : goal.returns-in-One-clause-same
returns-in-One-clause-same c = rw c.in-One.is c.joined_rows.ensures.same

pub returns-in_ok-other-in-Many-clause-same : goal.returns-in_ok-other-in-Many-clause-same
returns-in_ok-other-in-Many-clause-same c =
    rw c.in-Many.is (if_ok c.paired.result c.paired.ensures.same (λ s e. e ∙ ap (λ (ys : List (List Form × Bool)). side_by_side (sketches [] [] (view c.in-Many.tree)) ys) c.in_ok-other-in-Many.ensures.same))
