use Rattle.std.proofs.Common.{◌∙◌}
use Rattle.av_normal.proofs.Outcomes.{if_ok}
use Rattle.av_normal.proofs.sketch.sketch_tree.Goals as goal

pub returns-clause-same : goal.returns-clause-same
returns-clause-same c = if_ok c.tree_of.result c.tree_of.ensures.same (λ t e. e ∙ c.in_ok-sketch.ensures.same)
