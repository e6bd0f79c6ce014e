use Rattle.std.proofs.Common.{rules, ◌≡◌, ◌^◌, ◌∙◌, arith, FitsSigned, to_z, of_z, to_z-of_z, w64}
use mir.Syntax.{w128}
use Rattle.std.proofs.lemmas.Int.{ints, fits_signed_from_abs}
use Rattle.av_affine.proofs.Dots.{dot_most}
use Rattle.av_affine.proofs.form.products.Goals as goal

pub overflow_cast-result : goal.overflow_cast-result
overflow_cast-result c =
    let f : FitsSigned w128 c.dot.result = search rules in
    let most = dot_most c.args.coef c.args.numbers.now 1024 (2 ^ 20) c.requires.coef c.requires.numbers in
    let g : FitsSigned w64 c.dot.result = fits_signed_from_abs w64 c.dot.result (omega (arith, ints, most, c.dot.ensures.value, c.requires.fits)) in
    simp to_z-of_z g

pub returns : goal.returns
returns c =
    let f : FitsSigned w128 c.dot.result = search rules in
    let most = dot_most c.args.coef c.args.numbers.now 1024 (2 ^ 20) c.requires.coef c.requires.numbers in
    let g : FitsSigned w64 c.dot.result = fits_signed_from_abs w64 c.dot.result (omega (arith, ints, most, c.dot.ensures.value, c.requires.fits)) in
    let e : to_z w64 (of_z w64 (to_z w128 (of_z w128 c.dot.result))) ≡ c.dot.result = simp to_z-of_z in
    record {
      value = e ∙ c.dot.ensures.value;
      small = rw e (omega (arith, ints, most, c.dot.ensures.value, c.requires.fits));
    }
