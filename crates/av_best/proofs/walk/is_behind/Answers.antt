use Rattle.std.proofs.Common.{◌≡◌, sym, subst, rules, arith, inl, inr, ⊎_elim}
use Rattle.av_sched.proofs.Pricing.{less_test}
use Rattle.av_best.specs.inner.Joint.{IsBehind}
use Rattle.av_best.proofs.walk.is_behind.Goals as goal

pub returns-then-estimate-found : goal.returns-then-estimate-found
returns-then-estimate-found c = λ t.
    let more = (less_test c.in-Some.found.cycles c.args.estimate.cycles).0 t in
    subst (IsBehind c.args.estimate c.args.rest) (sym c.in-Some.is) (inl more)

pub returns : goal.returns
returns c = λ t.
    let same : c.args.estimate.cycles ≡ c.in-Some.found.cycles = search rules in
    let above = c.is_above.ensures t in
    let left = c.at_least.ensures.left in
    let size = c.at_least.ensures.size in
    subst (IsBehind c.args.estimate c.args.rest) (sym c.in-Some.is)
    (inr (same, ⊎_elim (λ h. inl (omega (arith, h, left))) (λ h. let p = h.0 in let q = h.1 in inr (omega (arith, p, left), omega (arith, q, size))) above))
