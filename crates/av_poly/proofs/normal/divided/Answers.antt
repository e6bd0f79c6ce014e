use Rattle.std.proofs.Common.{rules, ◌≤◌, ◌^◌, to_z, of_z, w64}
use Rattle.av_poly.specs.Normal.{counted, IsDivided}
use Rattle.av_poly.proofs.Dividing.{none_counted, divided_small, divisor_small}
use Rattle.av_poly.proofs.normal.divided.Goals as goal

pub overflow_cast-divisor : goal.overflow_cast-divisor
overflow_cast-divisor c =
    let most : c.gcd_of-divisor.result ≤ 2 ^ 40 = divisor_small _ _ _ _ c.counted_of-coef.ensures c.requires.coefficients c.gcd_of-divisor.ensures.most in
    search rules

pub coefficients_over-requires : goal.coefficients_over-requires
coefficients_over-requires c =
    let most : c.gcd_of-divisor.result ≤ 2 ^ 40 = divisor_small _ _ _ _ c.counted_of-coef.ensures c.requires.coefficients c.gcd_of-divisor.ensures.most in
    search rules

pub returns-then-divisor-eq0-clause-none : goal.returns-then-divisor-eq0-clause-none
returns-then-divisor-eq0-clause-none c =
    let g = rw c.if-divisor-eq0.true at c.gcd_of-divisor.ensures.gcd in
    none_counted (counted c.args.dim c.args.row.now.coef) (rw c.counted_of-coef.ensures at g)

pub returns-clause-divided : goal.returns-clause-divided
returns-clause-divided c =
    let most : c.gcd_of-divisor.result ≤ 2 ^ 40 = divisor_small _ _ _ _ c.counted_of-coef.ensures c.requires.coefficients c.gcd_of-divisor.ensures.most in
    search rules

pub returns-clause-small : goal.returns-clause-small
returns-clause-small c =
    let most : c.gcd_of-divisor.result ≤ 2 ^ 40 = divisor_small _ _ _ _ c.counted_of-coef.ensures c.requires.coefficients c.gcd_of-divisor.ensures.most in
    let is : IsDivided c.args.dim c.args.row.now (record { coef = c.coefficients_over.result; constant = to_z w64 (of_z w64 c.div_euclid.result) }) = search rules in
    divided_small c.args.dim c.args.row.now _ is c.requires
