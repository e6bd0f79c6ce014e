use Rattle.std.proofs.Common.{◌≡◌, ◌∙◌, ap, sym, subst, arith, map, ℤ, pos, ◌*ℤ◌, ◌<ℤ◌, List, to_z, w64}
use Rattle.std.specs.Int.{int_div_euclid}
use Rattle.std.proofs.lemmas.Int.{ints, fits_signed_from_abs}
use Rattle.av_affine.specs.Numbers.{AtMost, IsGcdOf}
use Rattle.av_affine.proofs.Exact.{divided, divided_most, divided_primitive, divided_times, divisor_positive, divisor_most}
use Rattle.av_affine.proofs.primitive.primitive_of.Goals as goal

pub overflow_cast-gcd : goal.overflow_cast-gcd
overflow_cast-gcd c =
    let most = divisor_most c.args.vector.now c.gcd_of-gcd.result 4 c.gcd_of-gcd.ensures.gcd c.requires.not_zero c.requires.small in
    fits_signed_from_abs w64 (pos c.gcd_of-gcd.result) (omega (arith, most))

pub quotients-requires-clause-positive : goal.quotients-requires-clause-positive
quotients-requires-clause-positive c =
    let most = divisor_most c.args.vector.now c.gcd_of-gcd.result 4 c.gcd_of-gcd.ensures.gcd c.requires.not_zero c.requires.small in
    let positive = divisor_positive c.args.vector.now c.gcd_of-gcd.result c.gcd_of-gcd.ensures.gcd c.requires.not_zero in
    omega (arith, ints, most, positive)

pub returns : goal.returns
returns c =
    let xs = c.args.vector.now in
    let g = c.gcd_of-gcd.result in
    let most = divisor_most xs g 4 c.gcd_of-gcd.ensures.gcd c.requires.not_zero c.requires.small in
    let positive = divisor_positive xs g c.gcd_of-gcd.ensures.gcd c.requires.not_zero in
    let p : to_z w64 g ≡ pos g = omega (arith, ints, most) in
    let e : c.quotients.result.items ≡ map (λ x. int_div_euclid x (to_z w64 g)) xs = c.quotients.ensures in
    let q : c.quotients.result.items ≡ divided xs g = e ∙ ap (λ d. map (λ x. int_div_euclid x d) xs) p in
    let gcd : pos 0 <ℤ to_z w64 g = omega (arith, ints, most, positive) in
    record {
      gcd = gcd;
      vector = divided_times xs g positive c.gcd_of-gcd.ensures.gcd ∙ ap (map (λ x. pos g *ℤ x)) (sym q) ∙ ap (λ (d : ℤ). map (λ x. d *ℤ x) c.quotients.result.items) (sym p);
      primitive = subst (λ (ys : List ℤ). IsGcdOf ys 1) (sym q) (divided_primitive xs g positive c.gcd_of-gcd.ensures.gcd);
      small = subst (AtMost 4) (sym q) (divided_most xs g 4 positive c.gcd_of-gcd.ensures.gcd c.requires.small);
    }
