use Rattle.std.proofs.Common.{◌≡◌, ◌+◌, ◌*◌, length}
use Rattle.av_lex.specs.Lexing.{views}
use Rattle.av_tree.specs.Trees.{view, view_all}
use Rattle.av_parse.specs.inner.ExpressionReader.{readers, sum_of, product_of, branches_of}
use Rattle.av_parse.proofs.Expressions.{GoesSum, GoesProduct, with_branches}
use Rattle.av_parse.proofs.cursor.Cursor.+expression.Given as goal

abbrev pub decreases-expr : goal.decreases-expr
decreases-expr l = 12 * l.levels + 10

abbrev pub decreases-choice : goal.decreases-choice
decreases-choice l = 12 * l.levels + 9

abbrev pub decreases-restriction : goal.decreases-restriction
decreases-restriction l = 12 * l.levels + 9

abbrev pub decreases-sum : goal.decreases-sum
decreases-sum l = 12 * l.levels + 8

abbrev pub decreases-product : goal.decreases-product
decreases-product l = 12 * l.levels + 7

abbrev pub decreases-unary : goal.decreases-unary
decreases-unary l = 12 * l.levels + 6

abbrev pub decreases-postfix : goal.decreases-postfix
decreases-postfix l = 12 * l.levels + 5

abbrev pub decreases-primary : goal.decreases-primary
decreases-primary l = 12 * l.levels + 4

abbrev pub decreases-parenthesis : goal.decreases-parenthesis
decreases-parenthesis l = 12 * l.levels + 1

abbrev pub decreases-extreme : goal.decreases-extreme
decreases-extreme l = 12 * l.levels + 3

abbrev pub decreases-last_operand : goal.decreases-last_operand
decreases-last_operand l = 12 * l.levels + 2

abbrev pub decreases-reduced : goal.decreases-reduced
decreases-reduced l = 12 * l.levels + 2

abbrev pub decreases-cases : goal.decreases-cases
decreases-cases l = 12 * l.levels + 2

abbrev pub decreases-reduction : goal.decreases-reduction
decreases-reduction l = 12 * l.levels + 3

abbrev pub decreases-branches : goal.decreases-branches
decreases-branches l = 12 * l.levels + 1

abbrev pub decreases-deeper_expr : goal.decreases-deeper_expr
decreases-deeper_expr l = 12 * l.levels

abbrev pub decreases-deeper_sum : goal.decreases-deeper_sum
decreases-deeper_sum l = 12 * l.levels

abbrev pub decreases-deeper_product : goal.decreases-deeper_product
decreases-deeper_product l = 12 * l.levels

abbrev pub decreases-deeper_unary : goal.decreases-deeper_unary
decreases-deeper_unary l = 12 * l.levels

abbrev pub invariant-sum-loop-sign : goal.invariant-sum-loop-sign
invariant-sum-loop-sign l = GoesSum l.room l.fn.levels (view l.tree) (views l.self.rest.now) (sum_of (readers l.fn.levels) (views l.fn.self.rest.now))

abbrev pub decreases-sum-loop-sign : goal.decreases-sum-loop-sign
decreases-sum-loop-sign l = l.room

abbrev pub invariant-product-loop-self : goal.invariant-product-loop-self
invariant-product-loop-self l = GoesProduct l.room l.fn.levels (view l.tree) (views l.self.rest.now) (product_of (readers l.fn.levels) (views l.fn.self.rest.now))

abbrev pub decreases-product-loop-self : goal.decreases-product-loop-self
decreases-product-loop-self l = l.room

abbrev pub invariant-branches-loop-room : goal.invariant-branches-loop-room
invariant-branches-loop-room l =
    with_branches (view_all l.found) (branches_of (readers l.fn.levels) l.room (views l.self.rest.now)) ≡ branches_of (readers l.fn.levels) (length (views l.fn.self.rest.now)) (views l.fn.self.rest.now)

abbrev pub decreases-branches-loop-room : goal.decreases-branches-loop-room
decreases-branches-loop-room l = l.room
