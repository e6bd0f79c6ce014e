use Rattle.std.proofs.Common.{◌≡◌, ◌<◌, length, map, true, false, None, List, ap, sym, subst, ◌∙◌, rules, arith}
use Rattle.std.proofs.lemmas.Result.{IfOk-weaker}
use Rattle.std.proofs.lemmas.Grind.{common_steps}
use Rattle.av_flat.specs.declared.tree.Tree.{Tree as TreeMade}
use Rattle.av_flat.specs.Trees.{Tree, view, trees_of, view_variable, cases}
use Rattle.av_flat.specs.Signatures.{signature}
use Rattle.av_flat.specs.Counts.{count}
use Rattle.av_flat.proofs.Views.{view_case}
use Rattle.av_flat.specs.Points.{has}
use Rattle.av_tree.specs.Points.{Point}
use Rattle.av_check.specs.declared.verdict.Verdict.TheVariants as verdict
use Rattle.av_check.specs.Blame.{blamed}
use Rattle.av_check.specs.inner.Reachable.{reach, IsReachable, AreReachable}
use Rattle.av_check.specs.inner.Verdicts.{IsVerdict, IsVerdictOfAll}
use Rattle.av_check.proofs.Judging.{of_two, of_four, inside, outside, has_true, has_false, branch_more}
use Rattle.av_normal.proofs.Depths.{less_deep}
use Rattle.av_check.proofs.Looking.{next_stands}
use Rattle.av_check.proofs.judge.+judge.Goals as goal

pub judge-judge_all-requires : goal.judge-judge_all-requires
judge-judge_all-requires t c =
    let vs = map signature (map view_variable c.args.vars.now) in
    let ds = c.args.under.now in
    let z = c.args.z.now in
    let e = ap view c.in-Case.is ∙ view_case c.in-Case.branches in
    let stands = subst (λ (u : Tree). IsReachable vs ds u z) e c.requires.stands in (
      less_deep t c.args.tree.now c.in-Case.branches c.as_slice.result.now c.in-Case.is c.as_slice.ensures c.decreases,
      (subst (λ (ts : List TreeMade). AreReachable vs ds (trees_of (map view ts)) z) (sym c.as_slice.ensures) stands, c.requires.small),
    )

pub judge-returns-in_ok-right-in-Binary : goal.judge-returns-in_ok-right-in-Binary
judge-returns-in_ok-right-in-Binary t c =
    let vs = map signature (map view_variable c.args.vars.now) in
    let y = reach c.args.under.now c.args.z.now in
    let l = view c.in-Binary.left.value in
    let r = view c.in-Binary.right.value in
    let h = subst (λ (u : TreeMade). IsVerdict vs (view u) y c.in_ok-left-in-Binary.left) c.deref.ensures c.in_ok-left-in-Binary.ensures in
    let k = subst (λ (u : TreeMade). IsVerdict vs (view u) y c.in_ok-right-in-Binary.right) c.deref-in-Binary.ensures c.in_ok-right-in-Binary.ensures in
    subst (λ (u : TreeMade). IsVerdict vs (view u) y c.both.result) (sym c.in-Binary.is)
    (of_two (count vs l y) (count vs r y) (blamed vs l y) (blamed vs r y) c.in_ok-left-in-Binary.left c.in_ok-right-in-Binary.right c.both.result c.both.ensures h k)

pub judge-returns-in_ok-no-in-Choose : goal.judge-returns-in_ok-no-in-Choose
judge-returns-in_ok-no-in-Choose t c =
    let vs = map signature (map view_variable c.args.vars.now) in
    let y = reach c.args.under.now c.args.z.now in
    let l = view c.in-Choose.left.value in
    let r = view c.in-Choose.right.value in
    let p = view c.in-Choose.yes.value in
    let q = view c.in-Choose.no.value in
    let first = subst (λ (u : TreeMade). IsVerdict vs (view u) y c.in_ok-left-in-Choose.left) c.deref-in-Choose.ensures c.in_ok-left-in-Choose.ensures in
    let second = subst (λ (u : TreeMade). IsVerdict vs (view u) y c.in_ok-right-in-Choose.right) c.deref-in-Choose-2.ensures c.in_ok-right-in-Choose.ensures in
    let third = subst (λ (u : TreeMade). IsVerdict vs (view u) y c.in_ok-yes-in-Choose.yes) c.deref-in-Choose-3.ensures c.in_ok-yes-in-Choose.ensures in
    let fourth = subst (λ (u : TreeMade). IsVerdict vs (view u) y c.in_ok-no-in-Choose.no) c.deref-in-Choose-4.ensures c.in_ok-no-in-Choose.ensures in
    subst (λ (u : TreeMade). IsVerdict vs (view u) y c.both-in-Choose-3.result) (sym c.in-Choose.is)
    (of_four (count vs l y) (count vs r y) (count vs p y) (count vs q y) (blamed vs l y) (blamed vs r y) (blamed vs p y) (blamed vs q y)
    c.in_ok-left-in-Choose.left c.in_ok-right-in-Choose.right c.in_ok-yes-in-Choose.yes c.in_ok-no-in-Choose.no c.both-in-Choose.result c.both-in-Choose-2.result c.both-in-Choose-3.result
    c.both-in-Choose.ensures c.both-in-Choose-2.ensures c.both-in-Choose-3.ensures first second third fourth)

pub judge-returns-then-contains : goal.judge-returns-then-contains
judge-returns-then-contains t c =
    let vs = map signature (map view_variable c.args.vars.now) in
    let y = reach c.args.under.now c.args.z.now in
    let d = c.in-Restrict.domain in
    let body = c.in-Restrict.body.value in
    let holds = has_true d c.point_under.result c.contains.result c.contains.ensures c.if-contains.true in
    let at = subst (λ (x : Point). has d x ≡ true) c.point_under.ensures.point holds in
    IfOk-weaker c.judge-then-contains.result (IsVerdict vs (view c.deref-then-contains.result.now) y) (IsVerdict vs (view c.args.tree.now) y)
    (λ v h. subst (λ (u : TreeMade). IsVerdict vs (view u) y v) (sym c.in-Restrict.is)
    (inside vs y d (view body) v at (subst (λ (u : TreeMade). IsVerdict vs (view u) y v) c.deref-then-contains.ensures h)))
    c.judge-then-contains.ensures

pub judge-returns-else-contains : goal.judge-returns-else-contains
judge-returns-else-contains t c =
    let vs = map signature (map view_variable c.args.vars.now) in
    let y = reach c.args.under.now c.args.z.now in
    let d = c.in-Restrict.domain in
    let body = c.in-Restrict.body.value in
    let missed = has_false d c.point_under.result c.contains.result c.contains.ensures c.if-contains.false in
    let at = subst (λ (x : Point). has d x ≡ false) c.point_under.ensures.point missed in
    subst (λ (u : TreeMade). IsVerdict vs (view u) y (verdict.Missing None)) (sym c.in-Restrict.is) (outside vs y d (view body) at)

pub judge-returns-in-Case : goal.judge-returns-in-Case
judge-returns-in-Case t c =
    let vs = map signature (map view_variable c.args.vars.now) in
    let y = reach c.args.under.now c.args.z.now in
    let e : view c.args.tree.now ≡ cases (trees_of (map view c.in-Case.branches)) = ap view c.in-Case.is ∙ view_case c.in-Case.branches in
    IfOk-weaker c.judge_all.result (IsVerdictOfAll vs (trees_of (map view c.as_slice.result.now)) y) (IsVerdict vs (view c.args.tree.now) y)
    (λ v h. subst (λ (u : Tree). IsVerdict vs u y v) (sym e) (subst (λ (ts : List TreeMade). IsVerdictOfAll vs (trees_of (map view ts)) y v) c.as_slice.ensures h))
    c.judge_all.ensures

pub judge_all-loop-tree-preserved : goal.judge_all-loop-tree-preserved
judge_all-loop-tree-preserved t c =
    let vs = map signature (map view_variable c.args.vars.now) in
    let i = c.loop-tree.tree-index in
    let trees = c.args.trees.now in
    let l : i < length trees = search rules in
    record {
      so_far = branch_more vs (reach c.args.under.now c.args.z.now) view trees i c.tree-item.result c.loop-tree.verdict c.in_ok-own.own c.either-verdict.result l c.tree-item.is c.either-verdict.ensures
          c.loop-tree.invariant.so_far c.in_ok-own.ensures;
      stand = (next_stands vs c.args.under.now trees i c.tree-item.result c.args.z.now l c.tree-item.is c.loop-tree.invariant.stand).1;
    }

pub judge-judge_reference-requires-clause-fits : goal.judge-judge_reference-requires-clause-fits
judge-judge_reference-requires-clause-fits t c = grind (arith, common_steps)
