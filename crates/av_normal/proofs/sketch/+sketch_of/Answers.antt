use Rattle.std.proofs.Common.{◌≡◌, ◌<◌, ◌≤◌, ◌+◌, ◌∙◌, ◌∷◌, ◌++◌, [], List, Bool, false, length, map, take, rules, ap, ap₂, sym, subst, All}
use Rattle.std.proofs.lemmas.List.{take_all, take_more}
use Rattle.std.proofs.lemmas.List.Elements.{All-nil}
use Rattle.av_affine.specs.declared.form.Form.{Form}
use Rattle.av_poly.specs.Points.{IsSmall}
use Rattle.av_flat.specs.declared.tree.Tree.{Tree as TreeMade}
use Rattle.av_flat.specs.Trees.{Tree, view, cases, trees_of}
use Rattle.av_flat.specs.Pieces.{rows_under, parts, parts_of_all}
use Rattle.av_flat.proofs.Views.{view_case}
use Rattle.av_normal.specs.inner.Numbered.{signatures_of}
use Rattle.av_normal.specs.inner.UnderMaps.{IsReading, IsReadable, AreReadable}
use Rattle.av_normal.specs.inner.Sketches.{sketched, sketches, side_by_side}
use Rattle.av_normal.proofs.Outcomes.{if_ok}
use Rattle.av_normal.proofs.Reading.{fits_read}
use Rattle.av_normal.proofs.Depths.{less_deep, branch_falls}
use Rattle.av_normal.proofs.PieceByNumber.{case_readable}
use Rattle.av_normal.proofs.Sketches.{reference_sketch, sketched_pairs, sketched_fours, sketched_behind, sketched_more, readable_more, readable_at}
use Rattle.av_normal.proofs.sketch.+sketch_of.Goals as goal

-- ---- references and restrictions

pub sketch_of-append_read-requires-clause-fits : goal.sketch_of-append_read-requires-clause-fits
sketch_of-append_read-requires-clause-fits t c =
    let h : IsReading (signatures_of c.args.vars.now) c.args.under.now c.in-Ref.var c.in-Ref.map = rw c.in-Ref.is at c.requires in
    fits_read (signatures_of c.args.vars.now) c.args.under.now c.in-Ref.var c.in-Ref.map c.composed_map-map.result c.composed_map-map.ensures.composed h.results

pub sketch_of-returns-in_ok-append_read-in-Ref-clause-sketch : goal.sketch_of-returns-in_ok-append_read-in-Ref-clause-sketch
sketch_of-returns-in_ok-append_read-in-Ref-clause-sketch t c =
    c.in_ok-append_read-in-Ref.ensures.small (subst (λ (rows : List Form). All IsSmall rows) (sym c.new-rows.ensures) (All-nil IsSmall))

pub sketch_of-returns-in_ok-append_read-in-Ref-clause-same : goal.sketch_of-returns-in_ok-append_read-in-Ref-clause-same
sketch_of-returns-in_ok-append_read-in-Ref-clause-same t c =
    rw c.in-Ref.is (reference_sketch (signatures_of c.args.vars.now) c.args.under.now c.in-Ref.var c.in-Ref.map c.composed_map-map.result c.new-rows.result c.append_read.new.rows c.new-rows.ensures c.composed_map-map.ensures.composed c.in_ok-append_read-in-Ref.ensures.rows)

pub sketch_of-joined_rows-requires-clause-rows : goal.sketch_of-joined_rows-requires-clause-rows
sketch_of-joined_rows-requires-clause-rows t c =
    c.in_ok-append_under-in-Restrict.ensures.small (subst (λ (rows : List Form). All IsSmall rows) (sym c.new-rows-in-Restrict.ensures) (All-nil IsSmall))

pub sketch_of-returns-in_ok-body-in-Restrict-clause-same : goal.sketch_of-returns-in_ok-body-in-Restrict-clause-same
sketch_of-returns-in_ok-body-in-Restrict-clause-same t c =
    let rows = rows_under c.args.under.now c.in-Restrict.domain.rows in
    let is : c.append_under.new.rows ≡ rows = c.in_ok-append_under-in-Restrict.ensures.rows ∙ ap (λ (old : List Form). old ++ rows) c.new-rows-in-Restrict.ensures in
    let body = rw c.deref-in-Restrict.ensures at c.in_ok-body-in-Restrict.ensures.same in
    rw c.in-Restrict.is
    (if_ok c.joined_rows.result c.joined_rows.ensures.same
    (λ s e. e ∙ ap₂ (λ (rows : List Form) (others : List (List Form × Bool)). side_by_side ((rows, false) ∷ []) others) is body ∙ sym (sketched_behind rows (parts (signatures_of c.args.vars.now) c.args.under.now (view c.in-Restrict.body.value)))))

-- ---- operands

pub sketch_of-returns-in_ok-right-in-Binary-clause-same : goal.sketch_of-returns-in_ok-right-in-Binary-clause-same
sketch_of-returns-in_ok-right-in-Binary-clause-same t c =
    let left = rw c.deref.ensures at c.in_ok-left-in-Binary.ensures.same in
    let right = rw c.deref-in-Binary.ensures at c.in_ok-right-in-Binary.ensures.same in
    rw c.in-Binary.is
    (if_ok c.joined.result c.joined.ensures.same
    (λ s e. e ∙ ap₂ (λ (xs ys : List (List Form × Bool)). side_by_side xs ys) left right
    ∙ sym (sketched_pairs c.in-Binary.sign (parts (signatures_of c.args.vars.now) c.args.under.now (view c.in-Binary.left.value)) (parts (signatures_of c.args.vars.now) c.args.under.now (view c.in-Binary.right.value)))))

pub sketch_of-returns-in_ok-left-in-Choose-clause-same : goal.sketch_of-returns-in_ok-left-in-Choose-clause-same
sketch_of-returns-in_ok-left-in-Choose-clause-same t c =
    let yes = rw c.deref-in-Choose.ensures at c.in_ok-yes-in-Choose.ensures.same in
    let no = rw c.deref-in-Choose-2.ensures at c.in_ok-no-in-Choose.ensures.same in
    let right = rw c.deref-in-Choose-3.ensures at c.in_ok-right-in-Choose.ensures.same in
    let left = rw c.deref-in-Choose-4.ensures at c.in_ok-left-in-Choose.ensures.same in
    let both : List (List Form × Bool) → List (List Form × Bool) → List (List Form × Bool) = λ xs ys. side_by_side xs ys in
    let last = c.in_ok-last-in-Choose.ensures.same ∙ ap₂ both yes no in
    let others = c.in_ok-others-in-Choose.ensures.same ∙ ap₂ both right last in
    rw c.in-Choose.is
    (if_ok c.joined-in-Choose-3.result c.joined-in-Choose-3.ensures.same
    (λ s e. e ∙ ap₂ both left others
    ∙ sym (sketched_fours c.in-Choose.compare (parts (signatures_of c.args.vars.now) c.args.under.now (view c.in-Choose.right.value)) (parts (signatures_of c.args.vars.now) c.args.under.now (view c.in-Choose.yes.value)) (parts (signatures_of c.args.vars.now) c.args.under.now (view c.in-Choose.no.value)) (parts (signatures_of c.args.vars.now) c.args.under.now (view c.in-Choose.left.value)))))

-- ---- branches

pub sketch_of-sketch_all-requires : goal.sketch_of-sketch_all-requires
sketch_of-sketch_all-requires t c = (
  less_deep t c.args.tree.now c.in-Case.branches c.as_slice.result.now c.in-Case.is c.as_slice.ensures c.decreases,
  case_readable (signatures_of c.args.vars.now) c.args.under.now c.args.tree.now c.in-Case.branches c.as_slice.result.now c.in-Case.is c.as_slice.ensures c.requires,
)

pub sketch_of-returns-in_ok-branches-in-Case-clause-sketch : goal.sketch_of-returns-in_ok-branches-in-Case-clause-sketch
sketch_of-returns-in_ok-branches-in-Case-clause-sketch t c =
    subst (λ (u : Tree). IsReadable [] [] u) (sym (view_case c.in_ok-branches-in-Case.branches)) c.in_ok-branches-in-Case.ensures.readable

pub sketch_of-returns-in_ok-branches-in-Case-clause-same : goal.sketch_of-returns-in_ok-branches-in-Case-clause-same
sketch_of-returns-in_ok-branches-in-Case-clause-same t c =
    let e : view c.args.tree.now ≡ _ = ap view c.in-Case.is ∙ view_case c.in-Case.branches ∙ ap (λ (ts : List TreeMade). cases (trees_of (map view ts))) (sym c.as_slice.ensures) in
    rw e (ap (λ (u : Tree). sketches [] [] u) (view_case c.in_ok-branches-in-Case.branches) ∙ c.in_ok-branches-in-Case.ensures.same)

pub sketch_all-sketch_of-requires : goal.sketch_all-sketch_of-requires
sketch_all-sketch_of-requires t c =
    let l : c.loop-branch.branch-index < length c.args.branches.now = search rules in (
      branch_falls t c.args.branches.now c.loop-branch.branch-index c.branch-item.result c.decreases l c.branch-item.is,
      readable_at (signatures_of c.args.vars.now) c.args.under.now c.args.branches.now c.loop-branch.branch-index c.branch-item.result l c.branch-item.is c.requires,
    )

pub sketch_all-loop-branch-preserved : goal.sketch_all-loop-branch-preserved
sketch_all-loop-branch-preserved t c =
    let i = c.loop-branch.branch-index in
    let branches = c.args.branches.now in
    let l : i < length branches = search rules in
    let branch = c.branch-item.result in
    let made = c.in_ok-tree_of.field-0 in
    let so_far = c.loop-branch.invariant in
    let here = c.in_ok-tree_of.ensures.same ∙ c.in_ok-sketch.ensures.same in
    let more : take (i + 1) branches ≡ take i branches ++ branch ∷ [] =
    take_more branches i branch l ∙ ap (λ (b : TreeMade). take i branches ++ b ∷ []) (sym c.branch-item.is)
    in
    record {
      readable = subst (λ (ts : List TreeMade). AreReadable [] [] (trees_of (map view ts))) (sym c.in_ok-push.ensures.ok) (readable_more [] [] c.loop-branch.trees made so_far.readable c.in_ok-tree_of.ensures.readable);
      same = ap (λ (ts : List TreeMade). map sketched (parts_of_all [] [] (trees_of (map view ts)))) c.in_ok-push.ensures.ok
          ∙ sketched_more [] [] c.loop-branch.trees made
          ∙ ap₂ (λ (xs ys : List (List Form × Bool)). xs ++ ys) so_far.same here
          ∙ sym (sketched_more (signatures_of c.args.vars.now) c.args.under.now (take i branches) branch)
          ∙ ap (λ (ts : List TreeMade). map sketched (parts_of_all (signatures_of c.args.vars.now) c.args.under.now (trees_of (map view ts)))) (sym more);
    }

pub sketch_all-returns-clause-same : goal.sketch_all-returns-clause-same
sketch_all-returns-clause-same t c =
    let over : length c.args.branches.now ≤ c.loop-branch.branch-index = search rules in
    c.loop-branch.invariant.same ∙ ap (λ (ts : List TreeMade). map sketched (parts_of_all (signatures_of c.args.vars.now) c.args.under.now (trees_of (map view ts)))) (take_all c.loop-branch.branch-index c.args.branches.now over)
