use Rattle.std.proofs.Common.{rules, ◌<◌, ◌≤◌, subst, length, get_or, All, take, arith}
use Rattle.std.proofs.lemmas.List.Elements.{All-more, All-weaker}
use Rattle.av_sched.specs.declared.price.Price.{Price}
use Rattle.av_sched.proofs.price.least_of.Goals as goal
use Rattle.av_base.proofs.Lists.{take_whole}

pub loop-price-preserved : goal.loop-price-preserved
loop-price-preserved c =
    let prices = c.args.prices.now in
    let i = c.loop-price.price-index in
    let l : i < length prices = search rules in
    let d : Price = record { left = 0; size = 0 } in
    let p = get_or prices i d in
    let a : c.min-left.result ≤ c.loop-price.left = search rules in
    let b : c.min-left.result ≤ p.left = search rules in
    let e : c.min-size.result ≤ c.loop-price.size = search rules in
    let f : c.min-size.result ≤ p.size = search rules in
    record {
      left = All-more (λ p. c.min-left.result ≤ p.left) prices i d l (All-weaker (λ p. c.loop-price.left ≤ p.left) (λ p. c.min-left.result ≤ p.left) (λ p h. omega (arith, a, h)) (take i prices) c.loop-price.invariant.left) b;
      size = All-more (λ p. c.min-size.result ≤ p.size) prices i d l (All-weaker (λ p. c.loop-price.size ≤ p.size) (λ p. c.min-size.result ≤ p.size) (λ p h. omega (arith, e, h)) (take i prices) c.loop-price.invariant.size) f;
    }

pub returns-clause-left : goal.returns-clause-left
returns-clause-left c = subst (All (λ (p : Price). c.loop-price.left ≤ p.left)) (take_whole c.args.prices.now c.loop-price.price-index (search rules)) c.loop-price.invariant.left

pub returns-clause-size : goal.returns-clause-size
returns-clause-size c = subst (All (λ (p : Price). c.loop-price.size ≤ p.size)) (take_whole c.args.prices.now c.loop-price.price-index (search rules)) c.loop-price.invariant.size
