use Rattle.std.proofs.Common.{◌≡◌, ◌<◌, true, false, sym, ◌∙◌, arith}
use Rattle.std.specs.Prelude.{codes}
use Rattle.std.proofs.lemmas.Result.{err_from_is_err_and}
use Rattle.av_lex.specs.Lexing.{view as token_view, views}
use Rattle.av_tree.specs.Trees.{view, view_all}
use Rattle.av_parse.specs.inner.Reader.{begins_symbol, begins_word}
use Rattle.av_parse.specs.inner.ExpressionReader.{readers}
use Rattle.av_parse.proofs.Expressions.{expr_at, sum_at, product_at, unary_at, expr_at_zero, sum_at_zero, product_at_zero, unary_at_zero, sum_stop, sum_first, sum_end, sum_operand_stop, sum_goes, product_stop, product_first, product_end, product_operand_stop, product_goes, view_all_push, branches_full, branches_stop, branches_semicolon_stop, branches_end, branches_goes, cases_done}
use Rattle.av_parse.proofs.InParts.{operand_stop, operand_done, reduced_stop, reduced_done}
use Rattle.av_parse.proofs.cursor.Cursor.+expression.Goals as goal

pub deeper_expr-returns-then-levels-eq0 : goal.deeper_expr-returns-then-levels-eq0
deeper_expr-returns-then-levels-eq0 t c = rw (c.too_deep.ensures, c.begins_expr-may_stand.ensures) (expr_at_zero c.args.levels (views c.args.self.now.rest.now) c.if-levels-eq0.true)

pub deeper_expr-returns : goal.deeper_expr-returns
deeper_expr-returns t c =
    let some : 0 < c.args.levels = (let z = c.if-levels-eq0.false in grind (arith, z)) in
    rw (expr_at c.args.levels (views c.args.self.now.rest.now) some) c.expr.ensures

pub deeper_sum-returns-then-levels-eq0 : goal.deeper_sum-returns-then-levels-eq0
deeper_sum-returns-then-levels-eq0 t c = rw (c.too_deep.ensures, c.begins_unary-may_stand.ensures) (sum_at_zero c.args.levels (views c.args.self.now.rest.now) c.if-levels-eq0.true)

pub deeper_sum-returns : goal.deeper_sum-returns
deeper_sum-returns t c =
    let some : 0 < c.args.levels = (let z = c.if-levels-eq0.false in grind (arith, z)) in
    rw (sum_at c.args.levels (views c.args.self.now.rest.now) some) c.sum.ensures

pub deeper_product-returns-then-levels-eq0-clause-gives : goal.deeper_product-returns-then-levels-eq0-clause-gives
deeper_product-returns-then-levels-eq0-clause-gives t c = rw (c.too_deep.ensures, c.begins_unary-may_stand.ensures) (product_at_zero c.args.levels (views c.args.self.now.rest.now) c.if-levels-eq0.true)

pub deeper_product-returns-clause-gives : goal.deeper_product-returns-clause-gives
deeper_product-returns-clause-gives t c =
    let some : 0 < c.args.levels = (let z = c.if-levels-eq0.false in grind (arith, z)) in
    rw (product_at c.args.levels (views c.args.self.now.rest.now) some) c.product.ensures

pub deeper_unary-returns-then-levels-eq0-clause-gives : goal.deeper_unary-returns-then-levels-eq0-clause-gives
deeper_unary-returns-then-levels-eq0-clause-gives t c = rw (c.too_deep.ensures, c.begins_unary-may_stand.ensures) (unary_at_zero c.args.levels (views c.args.self.now.rest.now) c.if-levels-eq0.true)

pub deeper_unary-returns-clause-gives : goal.deeper_unary-returns-clause-gives
deeper_unary-returns-clause-gives t c =
    let some : 0 < c.args.levels = (let z = c.if-levels-eq0.false in grind (arith, z)) in
    rw (unary_at c.args.levels (views c.args.self.now.rest.now) some) c.unary.ensures

pub branches-returns-in_err-branch : goal.branches-returns-in_err-branch
branches-returns-in_err-branch t c =
    let p = err_from_is_err_and c.from_residual.result c.from_residual.ensures.1 in
    rw (p.1, p.2) (branches_stop (readers c.args.levels) (view_all c.loop-room.found) c.loop-room.room (views c.loop-room.self.rest.now) _ c.loop-room.invariant c.in_err-branch.field-0.0 c.loop-room-test.true c.in_err-branch.ensures)

pub branches-returns-in_err-branch_end : goal.branches-returns-in_err-branch_end
branches-returns-in_err-branch_end t c =
    let p = err_from_is_err_and c.from_residual-in_err-branch_end.result c.from_residual-in_err-branch_end.ensures.1 in
    rw (p.1, p.2) (branches_semicolon_stop (readers c.args.levels) (view_all c.loop-room.found) c.loop-room.room (views c.loop-room.self.rest.now) _ c.loop-room.invariant c.in_err-branch_end.field-0.0 (view c.in_ok-branch.branch) (views c.deeper_expr.new.self.rest.now) c.loop-room-test.true c.in_ok-branch.ensures c.in_err-branch_end.ensures)

pub branches-returns-then-is_word : goal.branches-returns-then-is_word
branches-returns-then-is_word t c =
    let stop : begins_word (codes "esac") (views c.branch_end.new.self.rest.now) ≡ true = sym c.is_word.ensures ∙ c.if-is_word.true in
    rw (c.in_ok-push.ensures.ok, view_all_push) (branches_end (readers c.args.levels) (view_all c.loop-room.found) c.loop-room.room (views c.loop-room.self.rest.now) _ c.loop-room.invariant (view c.in_ok-branch.branch) (views c.deeper_expr.new.self.rest.now) (token_view c.in_ok-branch_end.field-0) (views c.branch_end.new.self.rest.now) c.loop-room-test.true c.in_ok-branch.ensures c.in_ok-branch_end.ensures stop)

pub branches-loop-room-preserved : goal.branches-loop-room-preserved
branches-loop-room-preserved t c =
    let more : begins_word (codes "esac") (views c.branch_end.new.self.rest.now) ≡ false = sym c.is_word.ensures ∙ c.if-is_word.false in
    rw (c.in_ok-push.ensures.ok, view_all_push) (branches_goes (readers c.args.levels) (view_all c.loop-room.found) c.loop-room.room (views c.loop-room.self.rest.now) _ c.loop-room.invariant (view c.in_ok-branch.branch) (views c.deeper_expr.new.self.rest.now) (token_view c.in_ok-branch_end.field-0) (views c.branch_end.new.self.rest.now) c.loop-room-test.true c.in_ok-branch.ensures c.in_ok-branch_end.ensures more)

pub branches-returns : goal.branches-returns
branches-returns t c = rw c.syntax.ensures (branches_full (readers c.args.levels) (view_all c.loop-room.found) c.loop-room.room (views c.loop-room.self.rest.now) _ c.loop-room.invariant (let z = c.loop-room-test.false in omega (arith, z)))

pub cases-returns : goal.cases-returns
cases-returns t c =
    cases_done (readers c.args.levels) c.args.place (views c.args.self.now.rest.now) (views c.branches.new.self.rest.now) c.in_ok-branches.branches (token_view c.in_ok-word.field-0) (views c.word.new.self.rest.now) c.in_ok-branches.ensures c.in_ok-word.ensures

pub product-returns-in_err-tree : goal.product-returns-in_err-tree
product-returns-in_err-tree t c =
    let p = err_from_is_err_and c.from_residual.result c.from_residual.ensures.1 in
    rw (p.1, p.2) (product_stop c.in_err-tree.field-0.0 c.args.levels (views c.args.self.now.rest.now) c.in_err-tree.ensures)

pub product-loop-self-init : goal.product-loop-self-init
product-loop-self-init t c = product_first c.args.levels (views c.args.self.now.rest.now) (views c.unary.new.self.rest.now) (view c.in_ok-tree.tree) c.in_ok-tree.ensures

pub product-returns-in_err-right : goal.product-returns-in_err-right
product-returns-in_err-right t c =
    let p = err_from_is_err_and c.from_residual-in_err-right.result c.from_residual-in_err-right.ensures.1 in
    let test : begins_symbol (codes "*") (views c.loop-self.self.rest.now) ≡ true = sym c.is_symbol.ensures ∙ c.loop-self-test.true in
    rw (p.1, p.2) (product_operand_stop c.loop-self.room c.args.levels (view c.loop-self.tree) (views c.loop-self.self.rest.now) _ c.loop-self.invariant c.in_err-right.field-0.0 test (rw c.skip-place.ensures.rest at c.in_err-right.ensures.gives))

pub product-loop-self-preserved : goal.product-loop-self-preserved
product-loop-self-preserved t c =
    let test : begins_symbol (codes "*") (views c.loop-self.self.rest.now) ≡ true = sym c.is_symbol.ensures ∙ c.loop-self-test.true in
    rw (c.in_ok-tree-2.ensures, c.skip-place.ensures.place) (product_goes c.loop-self.room c.args.levels (view c.loop-self.tree) (views c.loop-self.self.rest.now) _ c.loop-self.invariant (view c.in_ok-right.right) (views c.deeper_unary.new.self.rest.now) test (rw c.skip-place.ensures.rest at c.in_ok-right.ensures.gives) c.in_ok-right.ensures.room)

pub product-returns : goal.product-returns
product-returns t c =
    let test : begins_symbol (codes "*") (views c.loop-self.self.rest.now) ≡ false = sym c.is_symbol.ensures ∙ c.loop-self-test.false in
    product_end c.loop-self.room c.args.levels (view c.loop-self.tree) (views c.loop-self.self.rest.now) _ c.loop-self.invariant test

pub sum-returns-in_err-tree : goal.sum-returns-in_err-tree
sum-returns-in_err-tree t c =
    let p = err_from_is_err_and c.from_residual.result c.from_residual.ensures.1 in
    rw (p.1, p.2) (sum_stop c.in_err-tree.field-0.0 c.args.levels (views c.args.self.now.rest.now) c.in_err-tree.ensures)

pub sum-loop-sign-init : goal.sum-loop-sign-init
sum-loop-sign-init t c = sum_first c.args.levels (views c.args.self.now.rest.now) (views c.product.new.self.rest.now) (view c.in_ok-tree.tree) c.in_ok-tree.ensures

pub sum-returns-in_err-right : goal.sum-returns-in_err-right
sum-returns-in_err-right t c =
    let p = err_from_is_err_and c.from_residual-in_err-right.result c.from_residual-in_err-right.ensures.1 in
    rw (p.1, p.2) (sum_operand_stop c.loop-sign.room c.args.levels (view c.loop-sign.tree) (views c.loop-sign.self.rest.now) _ c.loop-sign.invariant c.in_err-right.field-0.0 c.in-Some.sign (sym c.sign.ensures ∙ c.in-Some.is) (rw c.skip-place.ensures.rest at c.in_err-right.ensures.gives))

pub sum-loop-sign-preserved : goal.sum-loop-sign-preserved
sum-loop-sign-preserved t c =
    rw (c.in_ok-tree-2.ensures, c.skip-place.ensures.place) (sum_goes c.loop-sign.room c.args.levels (view c.loop-sign.tree) (views c.loop-sign.self.rest.now) _ c.loop-sign.invariant c.in-Some.sign (view c.in_ok-right.right) (views c.deeper_product.new.self.rest.now) (sym c.sign.ensures ∙ c.in-Some.is) (rw c.skip-place.ensures.rest at c.in_ok-right.ensures.gives) c.in_ok-right.ensures.room)

pub sum-returns : goal.sum-returns
sum-returns t c = sum_end c.loop-sign.room c.args.levels (view c.loop-sign.tree) (views c.loop-sign.self.rest.now) _ c.loop-sign.invariant (sym c.sign.ensures ∙ c.in_default.is)

pub last_operand-returns-in_err-right : goal.last_operand-returns-in_err-right
last_operand-returns-in_err-right t c =
    let p = err_from_is_err_and c.from_residual.result c.from_residual.ensures.1 in
    rw (p.1, p.2) (operand_stop c.in_err-right.field-0.0 (readers c.args.levels) c.args.sign c.args.place (view c.args.left) (views c.args.self.now.rest.now) c.in_err-right.ensures)

pub last_operand-returns : goal.last_operand-returns
last_operand-returns t c =
    rw c.in_ok-joined.ensures (operand_done (readers c.args.levels) c.args.sign c.args.place (view c.args.left) (views c.args.self.now.rest.now) (view c.in_ok-right.right) (views c.parenthesis.new.self.rest.now) c.in_ok-right.ensures)

pub reduced-returns-in_err-reduced : goal.reduced-returns-in_err-reduced
reduced-returns-in_err-reduced t c =
    let p = err_from_is_err_and c.from_residual.result c.from_residual.ensures.1 in
    rw (p.1, p.2) (reduced_stop c.in_err-reduced.field-0.0 (readers c.args.levels) c.args.op c.args.map c.args.place (views c.args.self.now.rest.now) c.in_err-reduced.ensures)

pub reduced-returns : goal.reduced-returns
reduced-returns t c =
    rw c.in_ok-new.ensures.ok (reduced_done (readers c.args.levels) c.args.op c.args.map c.args.place (views c.args.self.now.rest.now) (view c.in_ok-reduced.reduced) (views c.parenthesis.new.self.rest.now) c.in_ok-reduced.ensures)
