use Rattle.std.proofs.Common.{◌+◌, ◌<◌, ◌∷◌, [], ℕ, sym, ap, ◌∙◌, arith}
use Rattle.av_wave.proofs.Digits.{two_of, two_decimal}
use Rattle.av_wave.proofs.numbers.two_digits.Goals as goal

pub returns-in_err-tens-clause-none : goal.returns-in_err-tens-clause-none
returns-in_err-tens-clause-none c =
    rw c.from_residual.ensures (λ number small e. let two = two_of number c.args.high c.args.low small e in c.in_err-tens.ensures.none two.0 two.3 two.5)

pub returns-in_err-ones-clause-none : goal.returns-in_err-ones-clause-none
returns-in_err-ones-clause-none c =
    rw c.from_residual-in_err-ones.ensures (λ number small e. let two = two_of number c.args.high c.args.low small e in c.in_err-ones.ensures.none two.1 two.4 two.6)

pub returns-then-tens-eq0-clause-none : goal.returns-then-tens-eq0-clause-none
returns-then-tens-eq0-clause-none c = λ number small e.
    let two = two_of number c.args.high c.args.low small e in
    omega (arith, two.2, two.5, c.in_ok-tens.ensures.some.1, c.if-tens-eq0.true)

pub returns-else-tens-eq0-clause-some : goal.returns-else-tens-eq0-clause-some
returns-else-tens-eq0-clause-some c =
    let t = c.in_ok-tens.ensures.some in
    let o = c.in_ok-ones.ensures.some in
    let some : 0 < c.in_ok-tens.tens = omega arith in
    two_decimal c.in_ok-tens.tens c.in_ok-ones.ones some t.0 o.0 ∙ ap (λ (high : ℕ). high ∷ (48 + c.in_ok-ones.ones) ∷ []) (sym t.1) ∙ ap (λ (low : ℕ). c.args.high ∷ low ∷ []) (sym o.1)
