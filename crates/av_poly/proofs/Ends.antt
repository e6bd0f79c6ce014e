-- The end of a walk through an interval of small numbers.
use Rattle.std.proofs.Common.{◌≡◌, arith, ℤ, pos, ◌+ℤ◌, ◌≤ℤ◌, ◌<ℤ◌, FitsSigned, to_z, of_z, to_z-of_z, true, false}
use mir.Syntax.{w128}
use Rattle.std.proofs.Math.IntN.{negsuc}
use Rattle.std.specs.Int.Signed.{lt_z}
use Rattle.std.proofs.lemmas.Int.{ints, fits_signed_from_abs}

pub fits_next : (h : ℤ) → h ≤ℤ pos 4095 → FitsSigned w128 h → FitsSigned w128 (h +ℤ pos 1)
fits_next (pos n) l f = fits_signed_from_abs w128 (pos n +ℤ pos 1) (omega (arith, ints, l))
fits_next (negsuc n) l f = grind (arith, ints)

pub at_most_end : (v h : ℤ) → h ≤ℤ pos 4095 → FitsSigned w128 h → lt_z v (to_z w128 (of_z w128 (to_z w128 (of_z w128 h) +ℤ pos 1))) ≡ true → v ≤ℤ h
at_most_end v h l f t =
    let g : FitsSigned w128 (h +ℤ pos 1) = fits_next h l f in
    let s : lt_z v (h +ℤ pos 1) ≡ true = simp to_z-of_z at t in
    grind (arith, ints)

pub past_end : (v h : ℤ) → h ≤ℤ pos 4095 → FitsSigned w128 h → lt_z v (to_z w128 (of_z w128 (to_z w128 (of_z w128 h) +ℤ pos 1))) ≡ false → h <ℤ v
past_end v h l f t =
    let g : FitsSigned w128 (h +ℤ pos 1) = fits_next h l f in
    let s : lt_z v (h +ℤ pos 1) ≡ false = simp to_z-of_z at t in
    grind (arith, ints)
