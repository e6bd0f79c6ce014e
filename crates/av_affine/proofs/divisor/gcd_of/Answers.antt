use Rattle.std.proofs.Common.{◌≤◌, ℕ, arith, rules, pos, get_or, FitsSigned, to_z-of_z, w64}
use Rattle.av_affine.specs.Numbers.{AtMost}
use Rattle.av_affine.proofs.Gcds.{gcd_more}
use Rattle.av_affine.proofs.divisor.gcd_of.Goals as goal

pub loop-number-preserved : goal.loop-number-preserved
loop-number-preserved c =
    let xs = c.args.numbers.now in
    let i = c.loop-number.number-index in
    let x = get_or xs i (pos 0) in
    let f : FitsSigned w64 x = search rules in
    let e = simp to_z-of_z at c.unsigned_abs.ensures.value in
    let g = rw e at c.gcd-divisor.ensures.gcd in (
      gcd_more xs i c.loop-number.divisor c.gcd-divisor.result (omega arith) c.loop-number.invariant.0 g,
      λ most h. let b = h i (pos 0) (omega arith) in let d = c.loop-number.invariant.1 most h in omega (arith, c.gcd-divisor.ensures.most, e, b, d),
    )
