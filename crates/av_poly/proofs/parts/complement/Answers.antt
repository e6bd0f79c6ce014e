use Rattle.std.proofs.Common.{rules, ◌≡◌, ◌^◌, ◌∙◌, sym, subst, ℤ, pos, ◌-ℤ◌, length, get_or, arith, FitsSigned, to_z, of_z, to_z-of_z, w64}
use Rattle.std.proofs.lemmas.Int.{ints, fits_signed_from_abs}
use Rattle.std.proofs.lemmas.Grind.{common_steps}
use Rattle.av_affine.specs.Numbers.{AtMost}
use Rattle.av_affine.proofs.Dots.{entry_most}
use Rattle.av_poly.proofs.Parting.{five, negated, negated_most, complement_points}
use Rattle.av_poly.proofs.parts.complement.Goals as goal

pub returns : goal.returns
returns c =
    let row = c.args.row.now in
    let r = row.coef in
    let k = row.constant in
    let l : length r ≡ 4 = search rules in
    let f0 : FitsSigned w64 (get_or r 0 (pos 0)) = search rules in
    let f1 : FitsSigned w64 (get_or r 1 (pos 0)) = search rules in
    let f2 : FitsSigned w64 (get_or r 2 (pos 0)) = search rules in
    let f3 : FitsSigned w64 (get_or r 3 (pos 0)) = search rules in
    let fk : FitsSigned w64 k = search rules in
    let m0 = entry_most (2 ^ 40) r 0 c.requires.row.coefficients in
    let m1 = entry_most (2 ^ 40) r 1 c.requires.row.coefficients in
    let m2 = entry_most (2 ^ 40) r 2 c.requires.row.coefficients in
    let m3 = entry_most (2 ^ 40) r 3 c.requires.row.coefficients in
    let g0 : FitsSigned w64 (pos 0 -ℤ get_or r 0 (pos 0)) = fits_signed_from_abs w64 _ (omega (arith, ints, m0)) in
    let g1 : FitsSigned w64 (pos 0 -ℤ get_or r 1 (pos 0)) = fits_signed_from_abs w64 _ (omega (arith, ints, m1)) in
    let g2 : FitsSigned w64 (pos 0 -ℤ get_or r 2 (pos 0)) = fits_signed_from_abs w64 _ (omega (arith, ints, m2)) in
    let g3 : FitsSigned w64 (pos 0 -ℤ get_or r 3 (pos 0)) = fits_signed_from_abs w64 _ (omega (arith, ints, m3)) in
    let gk : FitsSigned w64 (pos 0 -ℤ k) = fits_signed_from_abs w64 _ (omega (arith, ints, c.requires.constant)) in
    let gl : FitsSigned w64 (pos 0 -ℤ k -ℤ pos 1) = fits_signed_from_abs w64 _ (omega (arith, ints, c.requires.constant)) in
    let back : (x : ℤ) → FitsSigned w64 x → FitsSigned w64 (pos 0 -ℤ x) → to_z w64 (of_z w64 (pos 0 -ℤ to_z w64 (of_z w64 x))) ≡ pos 0 -ℤ x = λ x f g. simp to_z-of_z in
    let e = five (back _ f0 g0) (back _ f1 g1) (back _ f2 g2) (back _ f3 g3) ∙ negated r l in
    let d : to_z w64 (of_z w64 (to_z w64 (of_z w64 (pos 0 -ℤ to_z w64 (of_z w64 k))) -ℤ pos 1)) ≡ pos 0 -ℤ k -ℤ pos 1 = simp to_z-of_z in
    record {
      points = λ z. complement_points row _ z e d;
      small = record {
        coefficients = subst (AtMost (2 ^ 40)) (sym e) (negated_most (2 ^ 40) r c.requires.row.coefficients);
        constant = rw d (omega (arith, ints, c.requires.constant));
      };
    }

pub overflow_sub-result-4 : goal.overflow_sub-result-4
overflow_sub-result-4 c = grind (arith, common_steps)

pub overflow_sub-result-6 : goal.overflow_sub-result-6
overflow_sub-result-6 c = grind (arith, common_steps)

pub overflow_sub-result-5 : goal.overflow_sub-result-5
overflow_sub-result-5 c = grind (arith, common_steps)

pub overflow_sub-result-3 : goal.overflow_sub-result-3
overflow_sub-result-3 c = grind (arith, common_steps)
