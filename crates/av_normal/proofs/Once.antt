-- Two lists of normalised rows of one list have as many rows and the same greatest numbers, since they are equal.
use Rattle.std.proofs.Common.{◌≡◌, ℕ, ◌≤◌, ⊎_elim, arith, List, length, ap, sym, subst, ◌^◌}
use Rattle.std.specs.List.{AllByRecursion}
use Rattle.av_affine.specs.declared.form.Form.{Form}
use Rattle.av_affine.specs.Maps.{greatest_coefficient, greatest_constant}
use Rattle.av_poly.specs.Points.{Set}
use Rattle.av_poly.specs.Normal.{AreNormalised}
use Rattle.av_poly.proofs.Uniqueness.{normalised_once}
use Rattle.av_flat.specs.Quantities.{of_set}
use Rattle.av_normal.specs.Searches.{IsNarrow}

pub record AreAlike (a b : List Form) : Type 0 where
  pub rows : length a ≡ length b
  pub coefficients : greatest_coefficient a ≡ greatest_coefficient b
  pub constants : greatest_constant a ≡ greatest_constant b

pub alike : (dim : ℕ) (rows a b : List Form) → AreNormalised dim rows a → AreNormalised dim rows b → AreAlike a b
alike dim rows a b h k = let e = normalised_once dim rows a b h k in record { rows = ap length e; coefficients = ap greatest_coefficient e; constants = ap greatest_constant e }

-- what holds of each row of the other holds of each row of the one
pub each_alike : (P : Form → Type 0) (dim : ℕ) (rows a b : List Form) → AreNormalised dim rows a → AreNormalised dim rows b → AllByRecursion P b → AllByRecursion P a
each_alike P dim rows a b h k s = let Q : List Form → Type 0 = λ (xs : List Form). AllByRecursion P xs in subst Q (sym (normalised_once dim rows a b h k)) s

-- a set with normalised rows within the limits is not above one
pub narrow_within : (set : Set) (new : List Form) → AreNormalised set.dim set.rows new → greatest_coefficient new ≤ 1024 → greatest_constant new ≤ 2 ^ 20 → length new ≤ 20 → IsNarrow (of_set set)
narrow_within set new s p q r kind n h =
    let same = alike set.dim set.rows h.0 new h.1 s in
    let a = same.rows in
    let b = same.coefficients in
    let c = same.constants in
    ⊎_elim
    (λ numbers. ⊎_elim (λ k. let e = k.1 in let o = k.2 in omega (arith, e, o, b, p)) (λ k. let e = k.2 in let o = k.3 in omega (arith, e, o, c, q)) numbers)
    (λ k. let e = k.number in let o = k.over in omega (arith, e, o, a, r))
    h.2
