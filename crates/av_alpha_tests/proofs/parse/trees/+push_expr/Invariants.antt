use Rattle.av_alpha_tests.proofs.parse.trees.+push_expr.Given as goal

abbrev pub decreases-push_expr : goal.decreases-push_expr
decreases-push_expr l = l.depth
