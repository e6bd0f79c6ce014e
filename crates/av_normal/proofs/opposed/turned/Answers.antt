use Rattle.std.proofs.Common.{rules, ◌≡◌, ◌^◌, ◌∙◌, ℤ, pos, ◌-ℤ◌, length, get_or, arith, FitsSigned, to_z, of_z, to_z-of_z, w64}
use Rattle.std.proofs.lemmas.Int.{ints, fits_signed_from_abs}
use Rattle.av_affine.proofs.Dots.{entry_most}
use Rattle.av_poly.proofs.Parting.{five, negated}
use Rattle.av_normal.proofs.opposed.turned.Goals as goal

pub returns : goal.returns
returns c =
    let r = c.args.coef in
    let l : length r ≡ 4 = search rules in
    let f0 : FitsSigned w64 (get_or r 0 (pos 0)) = search rules in
    let f1 : FitsSigned w64 (get_or r 1 (pos 0)) = search rules in
    let f2 : FitsSigned w64 (get_or r 2 (pos 0)) = search rules in
    let f3 : FitsSigned w64 (get_or r 3 (pos 0)) = search rules in
    let m0 = entry_most (2 ^ 40) r 0 c.requires in
    let m1 = entry_most (2 ^ 40) r 1 c.requires in
    let m2 = entry_most (2 ^ 40) r 2 c.requires in
    let m3 = entry_most (2 ^ 40) r 3 c.requires in
    let g0 : FitsSigned w64 (pos 0 -ℤ get_or r 0 (pos 0)) = fits_signed_from_abs w64 _ (omega (arith, ints, m0)) in
    let g1 : FitsSigned w64 (pos 0 -ℤ get_or r 1 (pos 0)) = fits_signed_from_abs w64 _ (omega (arith, ints, m1)) in
    let g2 : FitsSigned w64 (pos 0 -ℤ get_or r 2 (pos 0)) = fits_signed_from_abs w64 _ (omega (arith, ints, m2)) in
    let g3 : FitsSigned w64 (pos 0 -ℤ get_or r 3 (pos 0)) = fits_signed_from_abs w64 _ (omega (arith, ints, m3)) in
    let back : (x : ℤ) → FitsSigned w64 x → FitsSigned w64 (pos 0 -ℤ x) → to_z w64 (of_z w64 (pos 0 -ℤ to_z w64 (of_z w64 x))) ≡ pos 0 -ℤ x = λ x f g. simp to_z-of_z in
    five (back _ f0 g0) (back _ f1 g1) (back _ f2 g2) (back _ f3 g3) ∙ negated r l
