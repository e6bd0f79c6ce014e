use Rattle.std.proofs.Common.{rules, ◌≡◌, ◌∙◌, w64, FitsSigned, to_z-of_z, arith}
use mir.Val.{to_z, of_z}
use mir.Syntax.{w128}
use Rattle.std.proofs.lemmas.Grind.{common_steps, elements}
use Rattle.av_names.specs.inner.Sums.{sizes_in}
use Rattle.av_names.proofs.Summed.{row_is}
use Rattle.av_names.proofs.affine.row.Goals as goal

pub returns : goal.returns
returns c =
    let k = c.small_between.result in
    let f : FitsSigned w64 k = search rules in
    let g : FitsSigned w128 c.args.gap = search rules in
    let h = simp to_z-of_z at c.small_between.ensures in
    let e : to_z w64 (of_z w64 k) ≡ k = simp to_z-of_z in
    row_is (sizes_in c.args.sizes.now) c.args.names.now c.args.left.now c.args.right.now c.args.gap c.coefficients_between.result (to_z w64 (of_z w64 k))
    (rw (c.as_slice-greater.ensures, c.as_slice-lesser.ensures) at c.coefficients_between.ensures)
    (e ∙ (rw (c.as_slice-greater.ensures, c.as_slice-lesser.ensures) at h))

pub coefficients_between-requires-clause-fits : goal.coefficients_between-requires-clause-fits
coefficients_between-requires-clause-fits c = grind (arith, elements)

pub small_between-requires-clause-fits : goal.small_between-requires-clause-fits
small_between-requires-clause-fits c = grind (arith, common_steps)
