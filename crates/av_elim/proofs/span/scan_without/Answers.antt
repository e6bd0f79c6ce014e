use Rattle.std.proofs.Common.{rules, ◌≡◌, ◌<◌, ◌+◌, ◌∙◌, suc, ℤ, pos, List, [], length, drop, get_or, int_lt, true, false, ap, sym, arith, w64, FitsSigned, to_z-of_z}
use Rattle.std.proofs.lemmas.Int.{ints}
use Rattle.std.proofs.lemmas.Grind.{common_steps}
use Rattle.av_affine.specs.declared.form.Form.{Form}
use Rattle.av_poly.specs.Rational.{homogeneous}
use Rattle.av_elim.specs.inner.Rows.{line, factor}
use Rattle.av_elim.specs.inner.Step.{pairs_of, all_pairs}
use Rattle.av_elim.specs.inner.Span.{scanned}
use Rattle.av_elim.specs.declared.span.Span.{Span}
use Rattle.av_elim.proofs.Loops.{all_in, all_out, scanned_append}
use Rattle.av_elim.proofs.span.scan_without.Goals as goal
use Rattle.av_elim.proofs.span.scan_without.Goals.{then-below-other-gt0, else-below-other-gt0}

pub loop-below-preserved : goal.loop-below-preserved
loop-below-preserved c =
    let rows = c.args.rows.now in
    let all = homogeneous rows in
    let i = c.loop-below.below-index in
    let none : Form = record { coef = []; constant = pos 0 } in
    let below = get_or rows i none in
    let k = suc c.args.other in
    let index = suc c.args.index in
    let h : i < length rows = c.loop-below-test.true in
    let f : FitsSigned w64 (get_or below.coef c.args.other (pos 0)) = search rules in
    elim c.if-below-other-gt0.branch [
      | then-below-other-gt0 w ↦
          let t : int_lt (pos 0) (factor k (line below)) ≡ true = grind (arith, ints, simp to_z-of_z at w.if-below-other-gt0.true) in
          let e = ap (λ (rs : List (List ℤ)). scanned index rs c.loop-below.span) (all_in rows i none h k all t) ∙ scanned_append index (pairs_of k (line below) all) (all_pairs k (homogeneous (drop (i + 1) rows)) all) c.loop-below.span in
          ap (λ (g : Span). scanned index (all_pairs k (homogeneous (drop (i + 1) rows)) all) g) (w.span-is ∙ w.scan_pairs-span.ensures) ∙ sym e ∙ c.loop-below.invariant
      | else-below-other-gt0 w ↦
          let t : int_lt (pos 0) (factor k (line below)) ≡ false = grind (arith, ints, simp to_z-of_z at w.if-below-other-gt0.false) in
          rw (w.span-is, ← all_out rows i none h k all t) c.loop-below.invariant
    ]

pub loop-row-preserved : goal.loop-row-preserved
loop-row-preserved c = grind (arith, common_steps)

pub scan_pairs-span-requires-clause-rows : goal.scan_pairs-span-requires-clause-rows
scan_pairs-span-requires-clause-rows c = grind (arith, common_steps)

pub scan_pairs-span-requires-clause-below : goal.scan_pairs-span-requires-clause-below
scan_pairs-span-requires-clause-below c = grind (arith, common_steps)

pub row_step-span-requires-clause-row : goal.row_step-span-requires-clause-row
row_step-span-requires-clause-row c = grind (arith, common_steps)
