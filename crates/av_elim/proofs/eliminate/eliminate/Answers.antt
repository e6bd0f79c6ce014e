use Rattle.std.proofs.Common.{rules, ◌≡◌, ◌<◌, ◌+◌, ◌++◌, ◌∙◌, suc, ℤ, pos, List, [], ◌∷◌, length, drop, get_or, int_lt, true, false, ap, sym, subst, arith, w64, FitsSigned, to_z-of_z}
use Rattle.std.specs.Ordering.{int_eq}
use Rattle.std.proofs.lemmas.Int.{ints}
use Rattle.std.proofs.lemmas.Grind.{common_steps}
use Rattle.av_affine.specs.declared.form.Form.{Form}
use Rattle.av_poly.specs.Rational.{homogeneous}
use Rattle.av_elim.specs.inner.Rows.{line, factor, StandsFor}
use Rattle.av_elim.specs.inner.Step.{pairs_of, all_pairs, flats}
use Rattle.av_elim.proofs.Merging.{stands_before}
use Rattle.av_elim.proofs.Loops.{grown, grown_by, flats_in, flats_out, all_in, all_out, append_none, none_left}
use Rattle.av_elim.proofs.eliminate.eliminate.Goals as goal
use Rattle.av_elim.proofs.eliminate.eliminate.Goals.{then-row-other-eq0+in_ok-add, else-row-other-eq0, then-below-other-gt0+in_ok-add_pairs, else-below-other-gt0}

pub loop-row-preserved : goal.loop-row-preserved
loop-row-preserved c =
    let rows = c.args.rows.now in
    let i = c.loop-row.row-index in
    let none : Form = record { coef = []; constant = pos 0 } in
    let row = get_or rows i none in
    let k = suc c.args.other in
    let h : i < length rows = c.loop-row-test.true in
    let f : FitsSigned w64 (get_or row.coef c.args.other (pos 0)) = search rules in
    elim c.if-row-other-eq0.branch [
      | then-row-other-eq0+in_ok-add w ↦
          let t : int_eq (factor k (line row)) (pos 0) ≡ true = grind (arith, ints, w.if-row-other-eq0.true) in
          let s = subst (λ (o : List Form). StandsFor (homogeneous c.loop-row.out ++ line row ∷ []) (homogeneous o)) (sym w.out-is) w.in_ok-add.ensures in
          grown (homogeneous c.loop-row.out) (homogeneous c.if-row-other-eq0.out) (line row) (flats k (homogeneous (drop i rows))) (flats k (homogeneous (drop (i + 1) rows))) _ s (flats_in rows i none h k t) c.loop-row.invariant
      | else-row-other-eq0 w ↦
          let t : int_eq (factor k (line row)) (pos 0) ≡ false = grind (arith, ints, w.if-row-other-eq0.false) in
          rw (w.out-is, ← flats_out rows i none h k t) c.loop-row.invariant
    ]

pub loop-below-init : goal.loop-below-init
loop-below-init c =
    let rows = c.args.rows.now in
    let k = suc c.args.other in
    let out = homogeneous c.loop-row.out in
    let e = ap (λ (z : List (List ℤ)). out ++ flats k z) (none_left rows c.loop-row.row-index c.loop-row-test.false) ∙ append_none out in
    stands_before (flats k (homogeneous rows)) out (all_pairs k (homogeneous rows) (homogeneous rows)) (subst (StandsFor (flats k (homogeneous rows))) e c.loop-row.invariant)

pub loop-below-preserved : goal.loop-below-preserved
loop-below-preserved c =
    let rows = c.args.rows.now in
    let all = homogeneous rows in
    let i = c.loop-below.below-index in
    let none : Form = record { coef = []; constant = pos 0 } in
    let below = get_or rows i none in
    let k = suc c.args.other in
    let h : i < length rows = c.loop-below-test.true in
    let f : FitsSigned w64 (get_or below.coef c.args.other (pos 0)) = search rules in
    elim c.if-below-other-gt0.branch [
      | then-below-other-gt0+in_ok-add_pairs w ↦
          let t : int_lt (pos 0) (factor k (line below)) ≡ true = grind (arith, ints, simp to_z-of_z at w.if-below-other-gt0.true) in
          let s = subst (λ (o : List Form). StandsFor (homogeneous c.loop-below.out ++ pairs_of k (line below) all) (homogeneous o)) (sym w.out-is) w.in_ok-add_pairs.ensures in
          grown_by (homogeneous c.loop-below.out) (homogeneous c.if-below-other-gt0.out) (pairs_of k (line below) all) (all_pairs k (homogeneous (drop i rows)) all) (all_pairs k (homogeneous (drop (i + 1) rows)) all) _ s (all_in rows i none h k all t) c.loop-below.invariant
      | else-below-other-gt0 w ↦
          let t : int_lt (pos 0) (factor k (line below)) ≡ false = grind (arith, ints, simp to_z-of_z at w.if-below-other-gt0.false) in
          rw (w.out-is, ← all_out rows i none h k all t) c.loop-below.invariant
    ]

pub add_pairs-requires-clause-rows : goal.add_pairs-requires-clause-rows
add_pairs-requires-clause-rows c = grind (arith, common_steps)

pub add_pairs-requires-clause-below : goal.add_pairs-requires-clause-below
add_pairs-requires-clause-below c = grind (arith, common_steps)

pub add-requires : goal.add-requires
add-requires c = grind (arith, common_steps)

pub returns : goal.returns
returns c = grind (arith, common_steps)
