use Rattle.std.proofs.Common.{◌≡◌, Bool, None, [], drop, refl, ap, ◌∙◌, length, true}
use Rattle.std.specs.Prelude.{option_map}
use Rattle.std.proofs.lemmas.Result.{IfOk-weaker}
use Rattle.av_tree.specs.Trees.{view, view_all}
use Rattle.av_names.specs.Forms.{Context, over, nameless}
use Rattle.av_names.specs.Found.{first_found}
use Rattle.av_names.specs.Parts.{parts_of, parts_of_all}
use Rattle.av_names.specs.inner.Seen.{found, SameNames}
use Rattle.av_names.proofs.Cases.{view_case}
use Rattle.av_names.proofs.Reach.{rule_of, headed_below, in_reference, in_constant, in_binary, in_choice, in_restriction, in_cases, in_dependence, in_reduction, branch_more}
use Rattle.av_names.proofs.in_reach.+inside.Goals as goal

pub unknown_inside-returns : goal.unknown_inside-returns
unknown_inside-returns t c = λ k r same.
    headed_below (rule_of c.args.sizes.now) r k (view c.args.expr.now) (option_map found c.in_ok-head.head) (option_map found c.in_ok-below.below) (option_map found c.sooner.result)
    (c.in_ok-head.ensures k r same) (c.in_ok-below.ensures k r same) c.sooner.ensures

pub unknown_below-returns-in-Ref : goal.unknown_below-returns-in-Ref
unknown_below-returns-in-Ref t c = λ k r same.
    in_reference (rule_of c.args.sizes.now) r k (view c.args.expr.now) None c.in-Ref.name c.in-Ref.at c.in-Ref.place (ap view c.in-Ref.is) refl

pub unknown_below-returns-in-Const : goal.unknown_below-returns-in-Const
unknown_below-returns-in-Const t c = λ k r same.
    in_constant (rule_of c.args.sizes.now) r k (view c.args.expr.now) None c.in-Const.value c.in-Const.at c.in-Const.place (ap view c.in-Const.is) refl

pub unknown_below-returns-in_ok-right-in-Binary : goal.unknown_below-returns-in_ok-right-in-Binary
unknown_below-returns-in_ok-right-in-Binary t c = λ k r same.
    in_binary (rule_of c.args.sizes.now) r k (view c.args.expr.now) (option_map found c.sooner.result)
    c.in-Binary.sign (view c.in-Binary.left.value) (view c.in-Binary.right.value) c.in-Binary.place (option_map found c.in_ok-left-in-Binary.left) (option_map found c.in_ok-right-in-Binary.right)
    (ap view c.in-Binary.is) (rw c.deref.ensures at c.in_ok-left-in-Binary.ensures k r same) (rw c.deref-in-Binary.ensures at c.in_ok-right-in-Binary.ensures k r same) c.sooner.ensures

pub unknown_below-returns-in_ok-no-in-Choose : goal.unknown_below-returns-in_ok-no-in-Choose
unknown_below-returns-in_ok-no-in-Choose t c = λ k r same.
    in_choice (rule_of c.args.sizes.now) r k (view c.args.expr.now) (option_map found c.sooner-in-Choose-2.result)
    (view c.in-Choose.left.value) c.in-Choose.compare (view c.in-Choose.right.value) (view c.in-Choose.yes.value) (view c.in-Choose.no.value) c.in-Choose.place
    (option_map found c.in_ok-left-in-Choose.left) (option_map found c.in_ok-right-in-Choose.right) (option_map found c.in_ok-yes-in-Choose.yes) (option_map found c.in_ok-no-in-Choose.no)
    (option_map found c.sooner-choices.result) (option_map found c.sooner-in-Choose.result)
    (ap view c.in-Choose.is) (rw c.deref-in-Choose.ensures at c.in_ok-left-in-Choose.ensures k r same) (rw c.deref-in-Choose-2.ensures at c.in_ok-right-in-Choose.ensures k r same)
    (rw c.deref-in-Choose-3.ensures at c.in_ok-yes-in-Choose.ensures k r same) (rw c.deref-in-Choose-4.ensures at c.in_ok-no-in-Choose.ensures k r same)
    c.sooner-choices.ensures c.sooner-in-Choose.ensures c.sooner-in-Choose-2.ensures

pub unknown_below-returns-in-Restrict : goal.unknown_below-returns-in-Restrict
unknown_below-returns-in-Restrict t c =
    let P = rule_of c.args.sizes.now in
    let e = view c.args.expr.now in
    IfOk-weaker c.unknown_inside-in-Restrict.result
    (λ first. (k : Context) (r : Bool) → SameNames c.args.context.now k.names → option_map found first ≡ first_found P (parts_of r k (view c.in-Restrict.body.value)))
    (λ first. (k : Context) (r : Bool) → SameNames c.args.context.now k.names → option_map found first ≡ first_found P (drop 1 (parts_of r k e)))
    (λ first is k r same. in_restriction P r k e (option_map found first) c.in-Restrict.domain (view c.in-Restrict.body.value) c.in-Restrict.place (ap view c.in-Restrict.is) (is k r same))
    (rw c.deref-in-Restrict.ensures at c.unknown_inside-in-Restrict.ensures)

pub unknown_below-returns-in-Case : goal.unknown_below-returns-in-Case
unknown_below-returns-in-Case t c =
    let P = rule_of c.args.sizes.now in
    let e = view c.args.expr.now in
    IfOk-weaker c.unknown_inside_all.result
    (λ first. (k : Context) (r : Bool) → SameNames c.args.context.now k.names → option_map found first ≡ first_found P (parts_of_all r k (view_all c.in-Case.branches)))
    (λ first. (k : Context) (r : Bool) → SameNames c.args.context.now k.names → option_map found first ≡ first_found P (drop 1 (parts_of r k e)))
    (λ first is k r same. in_cases P r k e (option_map found first) (view_all c.in-Case.branches) c.in-Case.place (ap view c.in-Case.is ∙ view_case c.in-Case.branches c.in-Case.place) (is k r same))
    (rw c.as_slice.ensures at c.unknown_inside_all.ensures)

pub unknown_below-returns-in-Depend : goal.unknown_below-returns-in-Depend
unknown_below-returns-in-Depend t c =
    let P = rule_of c.args.sizes.now in
    let e = view c.args.expr.now in
    let body = view c.in-Depend.body.value in
    IfOk-weaker c.unknown_over.result
    (λ first. (k : Context) (r : Bool) → SameNames [] k.names → option_map found first ≡ first_found P (parts_of r k body))
    (λ first. (k : Context) (r : Bool) → SameNames c.args.context.now k.names → option_map found first ≡ first_found P (drop 1 (parts_of r k e)))
    (λ first is k r same. in_dependence P r k e (option_map found first) c.in-Depend.map body c.in-Depend.place (ap view c.in-Depend.is) (is (nameless (length c.in-Depend.map.results)) r (λ name. refl)))
    (rw c.deref-in-Depend.ensures at c.unknown_over.ensures)

pub unknown_below-returns-in-Reduce : goal.unknown_below-returns-in-Reduce
unknown_below-returns-in-Reduce t c =
    let P = rule_of c.args.sizes.now in
    let e = view c.args.expr.now in
    let body = view c.in-Reduce.body.value in
    IfOk-weaker c.unknown_over-in-Reduce.result
    (λ first. (k : Context) (r : Bool) → SameNames c.in-Reduce.map.names k.names → option_map found first ≡ first_found P (parts_of r k body))
    (λ first. (k : Context) (r : Bool) → SameNames c.args.context.now k.names → option_map found first ≡ first_found P (drop 1 (parts_of r k e)))
    (λ first is k r same. in_reduction P r k e (option_map found first) c.in-Reduce.op c.in-Reduce.map body c.in-Reduce.place (ap view c.in-Reduce.is) (is (over c.in-Reduce.map.names) true (λ name. refl)))
    (rw (c.deref-in-Reduce.ensures, c.as_slice-in-Reduce.ensures) at c.unknown_over-in-Reduce.ensures)

pub unknown_over-returns : goal.unknown_over-returns
unknown_over-returns t c =
    IfOk-weaker c.unknown_inside.result
    (λ first. (k : Context) (r : Bool) → SameNames c.in_ok-context.context k.names → option_map found first ≡ first_found (rule_of c.args.sizes.now) (parts_of r k (view c.args.expr.now)))
    (λ first. (k : Context) (r : Bool) → SameNames c.args.names.now k.names → option_map found first ≡ first_found (rule_of c.args.sizes.now) (parts_of r k (view c.args.expr.now)))
    (λ first found_is k r same. found_is k r (λ name. c.in_ok-context.ensures name ∙ same name)) c.unknown_inside.ensures

pub unknown_inside_all-loop-branch-preserved : goal.unknown_inside_all-loop-branch-preserved
unknown_inside_all-loop-branch-preserved t c = λ k r same.
    branch_more (rule_of c.args.sizes.now) r k c.args.branches.now c.loop-branch.branch-index c.branch-item.result (option_map found c.loop-branch.first) (option_map found c.in_ok-next.next)
    (option_map found c.sooner-first.result) c.loop-branch-test.true c.branch-item.is (c.loop-branch.invariant k r same) (c.in_ok-next.ensures k r same) c.sooner-first.ensures
