use Rattle.std.proofs.Common.{rules, ◌≡◌, ◌≤◌, ◌<◌, ◌^◌, ◌∷◌, ◌∙◌, ap₂, sym, subst, ℕ, zero, suc, ℤ, pos, map, List, refl, arith, w64, FitsSigned, to_z, of_z, to_z-of_z}
use Rattle.std.specs.Int.{int_div_euclid}
use Rattle.std.proofs.lemmas.Int.{ints}
use Rattle.av_affine.proofs.Exact.{divided}
use Rattle.av_elim.specs.inner.Rows.{line, IsReduced}
use Rattle.av_elim.proofs.Merging.{reduced_same, reduced_by, divisor_small}
use Rattle.av_elim.proofs.merge.reduced.Goals as goal

pub overflow_cast-divisor : goal.overflow_cast-divisor
overflow_cast-divisor c =
    let f : FitsSigned w64 c.args.row.now.constant = search rules in
    let u = simp to_z-of_z at c.unsigned_abs.ensures.value in
    let most : c.gcd_of.result ≤ 2 ^ 43 = divisor_small c.args.row.now c.gcd_of.result c.requires c.gcd_of.ensures.most in
    omega (arith, c.gcd-divisor.ensures.most, most, u, c.requires.constant)

pub coefficients_over-requires : goal.coefficients_over-requires
coefficients_over-requires c =
    let f : FitsSigned w64 c.args.row.now.constant = search rules in
    let u = simp to_z-of_z at c.unsigned_abs.ensures.value in
    let most : c.gcd_of.result ≤ 2 ^ 43 = divisor_small c.args.row.now c.gcd_of.result c.requires c.gcd_of.ensures.most in
    let m : c.gcd-divisor.result ≤ 2 ^ 53 = omega (arith, c.gcd-divisor.ensures.most, most, u, c.requires.constant) in
    let p : to_z w64 c.gcd-divisor.result ≡ pos c.gcd-divisor.result = omega (arith, ints, m) in
    search rules

pub returns-then-divisor-eq0 : goal.returns-then-divisor-eq0
returns-then-divisor-eq0 c = reduced_same (line c.args.row.now)

positive : (n : ℕ) → (n ≡ 0 → ⊥) → 0 < n
positive zero h = absurd (h refl)
positive (suc n) h = omega arith

pub returns : goal.returns
returns c =
    let row = c.args.row.now in
    let h = c.gcd-divisor.result in
    let f : FitsSigned w64 row.constant = search rules in
    let u = simp to_z-of_z at c.unsigned_abs.ensures.value in
    let m : h ≤ 2 ^ 53 = omega (arith, c.gcd-divisor.ensures.most, divisor_small row c.gcd_of.result c.requires c.gcd_of.ensures.most, u, c.requires.constant) in
    let p : to_z w64 h ≡ pos h = omega (arith, ints, m) in
    let q : c.coefficients_over.result ≡ map (λ x. int_div_euclid x (to_z w64 h)) row.coef = c.coefficients_over.ensures in
    let q' : c.coefficients_over.result ≡ divided row.coef h = rw p at q in
    let d : c.div_euclid.result ≡ int_div_euclid (to_z w64 (of_z w64 row.constant)) (to_z w64 h) = c.div_euclid.ensures in
    let d' = simp to_z-of_z at (rw p at d) in
    let back : (z : ℤ) → FitsSigned w64 z → to_z w64 (of_z w64 z) ≡ z = λ z f. simp to_z-of_z in
    let e = back c.div_euclid.result (search rules) ∙ d' in
    let g = c.gcd-divisor.ensures.gcd in
    let r = reduced_by row.constant row.coef c.gcd_of.result h c.gcd_of.ensures.gcd g.0 (rw u at g.1) (positive h c.if-divisor-eq0.false) in
    subst (IsReduced (line row)) (ap₂ (λ (x : ℤ) (xs : List ℤ). x ∷ xs) (sym e) (sym q')) r
