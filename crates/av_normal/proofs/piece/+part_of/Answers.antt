use Rattle.std.proofs.Common.{◌≡◌, ◌<◌, ◌≤◌, ◌+◌, length, map, drop, arith, rules, ap, sym, subst, ◌∙◌, List, refl, OnOk, All}
use Rattle.std.proofs.lemmas.Grind.{common_steps}
use Rattle.av_affine.specs.declared.form.Form.{Form}
use Rattle.av_poly.specs.Points.{IsSmall}
use Rattle.av_flat.specs.declared.tree.Tree.{Tree as TreeMade}
use Rattle.av_flat.specs.Trees.{view, constant, cases, trees_of}
use Rattle.av_flat.proofs.Views.{view_case}
use Rattle.av_normal.specs.inner.Numbered.{signatures_of}
use Rattle.av_normal.specs.inner.UnderMaps.{IsReading}
use Rattle.av_normal.specs.inner.PieceByNumber.{IsPartAt}
use Rattle.av_normal.proofs.Outcomes.{on_ok, if_ok}
use Rattle.av_normal.proofs.Reading.{fits_read}
use Rattle.av_normal.proofs.Depths.{less_deep, right_falls, first_falls, second_falls, third_falls, fourth_falls}
use Rattle.av_normal.proofs.PieceByNumber.{case_readable, case_has_part, has_right, has_one, has_two, has_three, has_four, next_branch_left, one_branch_more, branch_found, binary_part, choice_part, restriction_part, leaf_part}
use Rattle.av_flat.specs.Quantities.{piece_count_of_all}
use Rattle.av_base.proofs.Lists.{nothing_left}
use Rattle.av_normal.proofs.piece.+part_of.Goals as goal

pub part_of-append_read-requires-clause-fits : goal.part_of-append_read-requires-clause-fits
part_of-append_read-requires-clause-fits t c =
    let h : IsReading (signatures_of c.args.vars.now) c.args.under.now c.in-Ref.var c.in-Ref.map = rw c.in-Ref.is at c.requires.readable in
    fits_read (signatures_of c.args.vars.now) c.args.under.now c.in-Ref.var c.in-Ref.map c.composed_map-map.result c.composed_map-map.ensures.composed h.results

-- ---- branches

pub part_of-part_of_case-requires : goal.part_of-part_of_case-requires
part_of-part_of_case-requires t c = (
  less_deep t c.args.tree.now c.in-Case.branches c.as_slice.result.now c.in-Case.is c.as_slice.ensures c.decreases,
  (
    case_readable (signatures_of c.args.vars.now) c.args.under.now c.args.tree.now c.in-Case.branches c.as_slice.result.now c.in-Case.is c.as_slice.ensures c.requires.readable,
    case_has_part c.args.tree.now c.in-Case.branches c.as_slice.result.now c.args.number c.in-Case.is c.as_slice.ensures c.requires.number,
  ),
)

pub part_of-returns-in-Case-clause-part : goal.part_of-returns-in-Case-clause-part
part_of-returns-in-Case-clause-part t c =
    let e : view c.args.tree.now ≡ _ = ap view c.in-Case.is ∙ view_case c.in-Case.branches ∙ ap (λ (ts : List TreeMade). cases (trees_of (map view ts))) (sym c.as_slice.ensures) in
    rw e c.part_of_case.ensures.part

pub part_of_case-loop-branch-init : goal.part_of_case-loop-branch-init
part_of_case-loop-branch-init t c = (record { readable = c.requires.readable; few = omega arith; there = λ less few. less; same = λ few. refl }, refl)

pub part_of_case-loop-branch-preserved : goal.part_of_case-loop-branch-preserved
part_of_case-loop-branch-preserved t c =
    let i = c.loop-branch.branch-index in
    let trees = c.args.branches.now in
    let l : i < length trees = search rules in
    let next = next_branch_left (signatures_of c.args.vars.now) c.args.under.now (trees_of (map view trees)) trees i c.branch-item.result c.args.number c.loop-branch.left l c.branch-item.is c.loop-branch.invariant.0 in
    (one_branch_more (signatures_of c.args.vars.now) c.args.under.now (trees_of (map view trees)) (view c.branch-item.result) (trees_of (map view (drop (i + 1) trees))) c.args.number c.loop-branch.left c.piece_count-count.result next c.piece_count-count.ensures (omega arith), c.loop-branch.invariant.1)

pub part_of_case-returns-then-left-count-clause-part : goal.part_of_case-returns-then-left-count-clause-part
part_of_case-returns-then-left-count-clause-part t c =
    let i = c.loop-branch.branch-index in
    let trees = c.args.branches.now in
    let l : i < length trees = search rules in
    let next = next_branch_left (signatures_of c.args.vars.now) c.args.under.now (trees_of (map view trees)) trees i c.branch-item.result c.args.number c.loop-branch.left l c.branch-item.is c.loop-branch.invariant.0 in
    if_ok c.part_of.result c.part_of.ensures.part
    (λ u p.
    subst (λ (rows : List Form). IsPartAt (signatures_of c.args.vars.now) c.args.under.now (cases (trees_of (map view trees))) c.args.number rows c.part_of.new.rows (view u)) c.loop-branch.invariant.1
    (branch_found (signatures_of c.args.vars.now) c.args.under.now (trees_of (map view trees)) (view c.branch-item.result) (trees_of (map view (drop (i + 1) trees))) c.args.number c.loop-branch.left c.piece_count-count.result next c.piece_count-count.ensures (search rules)
    c.loop-branch.rows c.part_of.new.rows (view u) p))

pub part_of_case-returns-then-left-count-clause-small : goal.part_of_case-returns-then-left-count-clause-small
part_of_case-returns-then-left-count-clause-small t c =
    subst (λ (rows : List Form). OnOk c.part_of.result (All IsSmall rows → All IsSmall c.part_of.new.rows)) c.loop-branch.invariant.1 c.part_of.ensures.small

pub part_of_case-unreachable-requires : goal.part_of_case-unreachable-requires
part_of_case-unreachable-requires t c =
    let l : length c.args.branches.now ≤ c.loop-branch.branch-index = search rules in
    let h = subst (λ (ts : List TreeMade). c.loop-branch.left < piece_count_of_all (trees_of (map view ts))) (nothing_left c.args.branches.now c.loop-branch.branch-index l)
    (c.loop-branch.invariant.0.there c.requires.number.0 c.requires.number.1)
    in
    omega (arith, h)

-- ---- operands

pub part_of-boxed_part-requires-in-Binary : goal.part_of-boxed_part-requires-in-Binary
part_of-boxed_part-requires-in-Binary t c = (
  right_falls t c.args.tree.now c.deref-in-Binary-2.result.now c.decreases c.in-Binary.sign c.in-Binary.left c.in-Binary.right c.in-Binary.is c.deref-in-Binary-2.ensures,
  (
    search rules,
    rw c.deref-in-Binary-2.ensures (has_right c.in-Binary.sign (view c.in-Binary.left.value) (view c.in-Binary.right.value) c.args.number c.two_numbers-first.result.0 c.two_numbers-first.result.1
        (rw c.deref.ensures at c.two_numbers-first.ensures) (rw c.in-Binary.is at c.requires.number)),
  ),
)

pub part_of-boxed_part-requires-in-Choose : goal.part_of-boxed_part-requires-in-Choose
part_of-boxed_part-requires-in-Choose t c = (
  first_falls t c.args.tree.now c.deref-in-Choose-4.result.now c.decreases c.in-Choose.compare c.in-Choose.left c.in-Choose.right c.in-Choose.yes c.in-Choose.no c.in-Choose.is c.deref-in-Choose-4.ensures,
  (
    search rules,
    rw c.deref-in-Choose-4.ensures (has_one c.in-Choose.compare (view c.in-Choose.left.value) (view c.in-Choose.right.value) (view c.in-Choose.yes.value) (view c.in-Choose.no.value) c.args.number
        c.four_numbers-first.result.0 c.four_numbers-first.result.1 c.four_numbers-first.result.2 c.four_numbers-first.result.3
        (rw (c.deref-in-Choose.ensures, c.deref-in-Choose-2.ensures, c.deref-in-Choose-3.ensures) at c.four_numbers-first.ensures) (rw c.in-Choose.is at c.requires.number)),
  ),
)

pub part_of-boxed_part-requires-in-Choose-2 : goal.part_of-boxed_part-requires-in-Choose-2
part_of-boxed_part-requires-in-Choose-2 t c = (
  second_falls t c.args.tree.now c.deref-in-Choose-5.result.now c.decreases c.in-Choose.compare c.in-Choose.left c.in-Choose.right c.in-Choose.yes c.in-Choose.no c.in-Choose.is c.deref-in-Choose-5.ensures,
  (
    search rules,
    rw c.deref-in-Choose-5.ensures (has_two c.in-Choose.compare (view c.in-Choose.left.value) (view c.in-Choose.right.value) (view c.in-Choose.yes.value) (view c.in-Choose.no.value) c.args.number
        c.four_numbers-first.result.0 c.four_numbers-first.result.1 c.four_numbers-first.result.2 c.four_numbers-first.result.3
        (rw (c.deref-in-Choose.ensures, c.deref-in-Choose-2.ensures, c.deref-in-Choose-3.ensures) at c.four_numbers-first.ensures) (rw c.in-Choose.is at c.requires.number)),
  ),
)

pub part_of-boxed_part-requires-in-Choose-3 : goal.part_of-boxed_part-requires-in-Choose-3
part_of-boxed_part-requires-in-Choose-3 t c = (
  third_falls t c.args.tree.now c.deref-in-Choose-6.result.now c.decreases c.in-Choose.compare c.in-Choose.left c.in-Choose.right c.in-Choose.yes c.in-Choose.no c.in-Choose.is c.deref-in-Choose-6.ensures,
  (
    search rules,
    rw c.deref-in-Choose-6.ensures (has_three c.in-Choose.compare (view c.in-Choose.left.value) (view c.in-Choose.right.value) (view c.in-Choose.yes.value) (view c.in-Choose.no.value) c.args.number
        c.four_numbers-first.result.0 c.four_numbers-first.result.1 c.four_numbers-first.result.2 c.four_numbers-first.result.3
        (rw (c.deref-in-Choose.ensures, c.deref-in-Choose-2.ensures, c.deref-in-Choose-3.ensures) at c.four_numbers-first.ensures) (rw c.in-Choose.is at c.requires.number)),
  ),
)

pub part_of-boxed_part-requires-in-Choose-4 : goal.part_of-boxed_part-requires-in-Choose-4
part_of-boxed_part-requires-in-Choose-4 t c = (
  fourth_falls t c.args.tree.now c.deref-in-Choose-7.result.now c.decreases c.in-Choose.compare c.in-Choose.left c.in-Choose.right c.in-Choose.yes c.in-Choose.no c.in-Choose.is c.deref-in-Choose-7.ensures,
  (
    search rules,
    rw c.deref-in-Choose-7.ensures (has_four c.in-Choose.compare (view c.in-Choose.left.value) (view c.in-Choose.right.value) (view c.in-Choose.yes.value) (view c.in-Choose.no.value) c.args.number
        c.four_numbers-first.result.0 c.four_numbers-first.result.1 c.four_numbers-first.result.2 c.four_numbers-first.result.3
        (rw (c.deref-in-Choose.ensures, c.deref-in-Choose-2.ensures, c.deref-in-Choose-3.ensures) at c.four_numbers-first.ensures) (rw c.in-Choose.is at c.requires.number)),
  ),
)

pub part_of-returns-in_ok-right-in-Binary-clause-part : goal.part_of-returns-in_ok-right-in-Binary-clause-part
part_of-returns-in_ok-right-in-Binary-clause-part t c =
    rw (c.in-Binary.is, c.binary.ensures)
    (binary_part (signatures_of c.args.vars.now) c.args.under.now c.in-Binary.sign (view c.in-Binary.left.value) (view c.in-Binary.right.value) c.args.number c.two_numbers-first.result.0 c.two_numbers-first.result.1
    c.args.rows.now c.boxed_part.new.rows c.boxed_part-in-Binary.new.rows (view c.in_ok-left-in-Binary.left.value) (view c.in_ok-right-in-Binary.right.value)
    (rw c.deref.ensures at c.two_numbers-first.ensures) (rw c.deref-in-Binary.ensures at c.in_ok-left-in-Binary.ensures.part) (rw c.deref-in-Binary-2.ensures at c.in_ok-right-in-Binary.ensures.part))

pub part_of-returns-in_ok-no-in-Choose-clause-part : goal.part_of-returns-in_ok-no-in-Choose-clause-part
part_of-returns-in_ok-no-in-Choose-clause-part t c =
    rw (c.in-Choose.is, c.choice.ensures)
    (choice_part (signatures_of c.args.vars.now) c.args.under.now c.in-Choose.compare (view c.in-Choose.left.value) (view c.in-Choose.right.value) (view c.in-Choose.yes.value) (view c.in-Choose.no.value) c.args.number
    c.four_numbers-first.result.0 c.four_numbers-first.result.1 c.four_numbers-first.result.2 c.four_numbers-first.result.3
    c.args.rows.now c.boxed_part-in-Choose.new.rows c.boxed_part-in-Choose-2.new.rows c.boxed_part-in-Choose-3.new.rows c.boxed_part-in-Choose-4.new.rows (view c.in_ok-left-in-Choose.left.value) (view c.in_ok-right-in-Choose.right.value) (view c.in_ok-yes-in-Choose.yes.value) (view c.in_ok-no-in-Choose.no.value)
    (rw (c.deref-in-Choose.ensures, c.deref-in-Choose-2.ensures, c.deref-in-Choose-3.ensures) at c.four_numbers-first.ensures)
    (rw c.deref-in-Choose-4.ensures at c.in_ok-left-in-Choose.ensures.part) (rw c.deref-in-Choose-5.ensures at c.in_ok-right-in-Choose.ensures.part)
    (rw c.deref-in-Choose-6.ensures at c.in_ok-yes-in-Choose.ensures.part) (rw c.deref-in-Choose-7.ensures at c.in_ok-no-in-Choose.ensures.part))

pub part_of-returns-in_ok-no-in-Choose-clause-small : goal.part_of-returns-in_ok-no-in-Choose-clause-small
part_of-returns-in_ok-no-in-Choose-clause-small t c =
    λ h. c.in_ok-no-in-Choose.ensures.small (c.in_ok-yes-in-Choose.ensures.small (c.in_ok-right-in-Choose.ensures.small (c.in_ok-left-in-Choose.ensures.small h)))

-- ---- others

pub part_of-returns-in_ok-append_under-in-Restrict-clause-part : goal.part_of-returns-in_ok-append_under-in-Restrict-clause-part
part_of-returns-in_ok-append_under-in-Restrict-clause-part t c =
    rw c.in-Restrict.is
    (if_ok c.part_of.result (rw c.deref-in-Restrict.ensures at c.part_of.ensures.part)
    (λ u p. restriction_part (signatures_of c.args.vars.now) c.args.under.now c.in-Restrict.domain (view c.in-Restrict.body.value) c.args.number c.args.rows.now c.append_under.new.rows c.part_of.new.rows (view u) c.in_ok-append_under-in-Restrict.ensures.rows p))

pub part_of-returns-in_ok-append_under-in-Restrict-clause-small : goal.part_of-returns-in_ok-append_under-in-Restrict-clause-small
part_of-returns-in_ok-append_under-in-Restrict-clause-small t c =
    on_ok c.part_of.result c.part_of.ensures.small (λ k h. k (c.in_ok-append_under-in-Restrict.ensures.small h))

pub part_of-returns-in-Const-clause-part : goal.part_of-returns-in-Const-clause-part
part_of-returns-in-Const-clause-part t c =
    leaf_part (signatures_of c.args.vars.now) c.args.under.now (view c.args.tree.now) (constant c.in-Const.word.bits) c.args.number c.args.rows.now (rw c.in-Const.is refl) (rw c.in-Const.is refl) (rw c.in-Const.is refl)

pub part_of-returns-in-Pick-clause-part : goal.part_of-returns-in-Pick-clause-part
part_of-returns-in-Pick-clause-part t c =
    if_ok c.copy_tree.result c.copy_tree.ensures (λ u e. leaf_part (signatures_of c.args.vars.now) c.args.under.now (view c.args.tree.now) (view u) c.args.number c.args.rows.now (rw c.in-Pick.is refl) (rw c.in-Pick.is refl) e)

pub part_of-returns-in_ok-body-in-Reduce-clause-part : goal.part_of-returns-in_ok-body-in-Reduce-clause-part
part_of-returns-in_ok-body-in-Reduce-clause-part t c = grind (arith, common_steps)
