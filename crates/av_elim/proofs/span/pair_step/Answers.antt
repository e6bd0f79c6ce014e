use Rattle.std.proofs.Common.{rules, ◌∙◌, ap₂, sym, zero, suc, get_or, pos, FitsSigned, to_z-of_z, arith, w64}
use mir.Syntax.{w128}
use Rattle.std.proofs.Math.IntN.{neg_ℤ}
use Rattle.av_elim.specs.inner.Rows.{line, factor}
use Rattle.av_elim.specs.inner.Span.{stepped}
use Rattle.av_elim.proofs.Lift.{factor_combine}
use Rattle.av_elim.proofs.span.pair_step.Goals as goal

pub combined_number-a-requires-clause-low : goal.combined_number-a-requires-clause-low
combined_number-a-requires-clause-low c =
    let f : FitsSigned w64 (get_or c.args.below.now.coef c.args.other (pos 0)) = search rules in
    simp to_z-of_z (c.requires.below.coefficients (suc c.args.other) (omega arith))

pub combined_number-a-requires-clause-high : goal.combined_number-a-requires-clause-high
combined_number-a-requires-clause-high c =
    let f : FitsSigned w64 (get_or c.args.above.now.coef c.args.other (pos 0)) = search rules in
    simp to_z-of_z (c.requires.above.coefficients (suc c.args.other) (omega arith))

pub combined_number-a-requires-clause-below : goal.combined_number-a-requires-clause-below
combined_number-a-requires-clause-below c =
    let f : FitsSigned w64 (get_or c.args.below.now.coef c.args.index (pos 0)) = search rules in
    let h = c.requires.below.coefficients (suc c.args.index) (omega arith) in
    simp to_z-of_z (omega (arith, h))

pub combined_number-a-requires-clause-above : goal.combined_number-a-requires-clause-above
combined_number-a-requires-clause-above c =
    let f : FitsSigned w64 (get_or c.args.above.now.coef c.args.index (pos 0)) = search rules in
    let h = c.requires.above.coefficients (suc c.args.index) (omega arith) in
    simp to_z-of_z (omega (arith, h))

pub combined_number-c-requires-clause-low : goal.combined_number-c-requires-clause-low
combined_number-c-requires-clause-low c =
    let f : FitsSigned w64 (get_or c.args.below.now.coef c.args.other (pos 0)) = search rules in
    simp to_z-of_z (c.requires.below.coefficients (suc c.args.other) (omega arith))

pub combined_number-c-requires-clause-high : goal.combined_number-c-requires-clause-high
combined_number-c-requires-clause-high c =
    let f : FitsSigned w64 (get_or c.args.above.now.coef c.args.other (pos 0)) = search rules in
    simp to_z-of_z (c.requires.above.coefficients (suc c.args.other) (omega arith))

pub step-requires-clause-a : goal.step-requires-clause-a
step-requires-clause-a c =
    let x = c.combined_number-a.result in
    let f2 : FitsSigned w64 (get_or c.args.below.now.coef c.args.index (pos 0)) = search rules in
    let f3 : FitsSigned w64 (get_or c.args.above.now.coef c.args.index (pos 0)) = search rules in
    let f6 : FitsSigned w128 x = search rules in
    let e = simp to_z-of_z at c.combined_number-a.ensures.coefficient in
    simp to_z-of_z (e (c.requires.below.coefficients (suc c.args.index) (omega arith)) (c.requires.above.coefficients (suc c.args.index) (omega arith)))

pub returns : goal.returns
returns c =
    let p = line c.args.below.now in
    let n = line c.args.above.now in
    let j = suc c.args.other in
    let k = suc c.args.index in
    let low = get_or c.args.below.now.coef c.args.other (pos 0) in
    let high = get_or c.args.above.now.coef c.args.other (pos 0) in
    let f0 : FitsSigned w64 low = search rules in
    let f1 : FitsSigned w64 high = search rules in
    let f2 : FitsSigned w64 (get_or c.args.below.now.coef c.args.index (pos 0)) = search rules in
    let f3 : FitsSigned w64 (get_or c.args.above.now.coef c.args.index (pos 0)) = search rules in
    let f4 : FitsSigned w64 c.args.below.now.constant = search rules in
    let f5 : FitsSigned w64 c.args.above.now.constant = search rules in
    let f6 : FitsSigned w128 c.combined_number-a.result = search rules in
    let f7 : FitsSigned w128 c.combined_number-c.result = search rules in
    let a = simp to_z-of_z at c.combined_number-a.ensures.value in
    let b = simp to_z-of_z at c.combined_number-c.ensures.value in
    let e = simp to_z-of_z at c.step.ensures in
    e ∙ ap₂ (λ x y. stepped x y c.args.span) (a ∙ sym (factor_combine (factor j p) (neg_ℤ (factor j n)) p n k)) (b ∙ sym (factor_combine (factor j p) (neg_ℤ (factor j n)) p n zero))

pub combined_number-c-requires-clause-below : goal.combined_number-c-requires-clause-below
combined_number-c-requires-clause-below c =
    let f : FitsSigned w64 c.args.below.now.constant = search rules in
    let h = c.requires.below.constant in
    simp to_z-of_z (omega (arith, h))

pub combined_number-c-requires-clause-above : goal.combined_number-c-requires-clause-above
combined_number-c-requires-clause-above c =
    let f : FitsSigned w64 c.args.above.now.constant = search rules in
    let h = c.requires.above.constant in
    simp to_z-of_z (omega (arith, h))

pub step-requires-clause-c : goal.step-requires-clause-c
step-requires-clause-c c =
    let f : FitsSigned w128 c.combined_number-c.result = search rules in
    simp to_z-of_z c.combined_number-c.ensures.small
