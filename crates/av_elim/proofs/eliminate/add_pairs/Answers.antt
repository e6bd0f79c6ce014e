use Rattle.std.proofs.Common.{rules, ◌≡◌, ◌<◌, ◌+◌, ◌^◌, ◌++◌, ◌∙◌, suc, ℤ, pos, List, [], ◌∷◌, length, drop, get_or, int_lt, true, false, ap, sym, subst, arith, w64, FitsSigned, to_z-of_z}
use Rattle.std.proofs.lemmas.Int.{ints}
use Rattle.std.proofs.lemmas.Grind.{common_steps}
use Rattle.av_affine.specs.declared.form.Form.{Form}
use Rattle.av_poly.specs.Rational.{homogeneous}
use Rattle.av_elim.specs.inner.Rows.{line, factor, Small, StandsFor}
use Rattle.av_elim.specs.inner.Step.{pairs_of}
use Rattle.av_elim.proofs.Growth.{small_combination}
use Rattle.av_elim.proofs.Loops.{grown, pairs_in, pairs_out}
use Rattle.av_elim.proofs.eliminate.add_pairs.Goals as goal
use Rattle.av_elim.proofs.eliminate.add_pairs.Goals.{then-above-other-lt0+in_ok-add, else-above-other-lt0}

pub add-requires : goal.add-requires
add-requires c =
    let none : Form = record { coef = []; constant = pos 0 } in
    let above = get_or c.args.rows.now c.loop-above.above-index none in
    subst (Small (2 ^ 43)) (sym c.combined.ensures) (small_combination (2 ^ 21) (suc c.args.other) (line c.args.below.now) (line above) (omega arith) c.requires.below (c.requires.rows c.loop-above.above-index none c.loop-above-test.true))

pub loop-above-preserved : goal.loop-above-preserved
loop-above-preserved c =
    let rows = c.args.rows.now in
    let i = c.loop-above.above-index in
    let none : Form = record { coef = []; constant = pos 0 } in
    let above = get_or rows i none in
    let k = suc c.args.other in
    let p = line c.args.below.now in
    let h : i < length rows = c.loop-above-test.true in
    let f : FitsSigned w64 (get_or above.coef c.args.other (pos 0)) = search rules in
    elim c.if-above-other-lt0.branch [
      | then-above-other-lt0+in_ok-add w ↦
          let t : int_lt (factor k (line above)) (pos 0) ≡ true = grind (arith, ints, simp to_z-of_z at w.if-above-other-lt0.true) in
          let s = subst (λ (o : List Form). StandsFor (homogeneous c.loop-above.out ++ line w.combined.result ∷ []) (homogeneous o)) (sym w.out-is) w.in_ok-add.ensures in
          grown (homogeneous c.loop-above.out) (homogeneous c.if-above-other-lt0.out) (line w.combined.result) (pairs_of k p (homogeneous (drop i rows))) (pairs_of k p (homogeneous (drop (i + 1) rows))) _ s
          (pairs_in rows i none h k p t ∙ ap (λ (z : List ℤ). z ∷ pairs_of k p (homogeneous (drop (i + 1) rows))) (sym w.combined.ensures))
          c.loop-above.invariant
      | else-above-other-lt0 w ↦
          let t : int_lt (factor k (line above)) (pos 0) ≡ false = grind (arith, ints, simp to_z-of_z at w.if-above-other-lt0.false) in
          rw (w.out-is, ← pairs_out rows i none h k p t) c.loop-above.invariant
    ]

pub combined-requires-clause-above : goal.combined-requires-clause-above
combined-requires-clause-above c = grind (arith, common_steps)

pub returns : goal.returns
returns c = grind (arith, common_steps)

pub combined-requires-clause-below : goal.combined-requires-clause-below
combined-requires-clause-below c = grind (arith, common_steps)
