use Rattle.std.proofs.Common.{rules, ◌≡◌, ◌<◌, ◌≤◌, ◌∙◌, refl, sym, ap, subst, length, List, ℕ, arith, ◌+◌, ◌++◌, ◌∷◌, [], All}
use Rattle.av_sched.specs.declared.price.Price.{Price}
use Rattle.av_sched.specs.Prices.{AreFloorsTo}
use Rattle.av_sched.proofs.Pricing.{floors_first, floors_one, floors_push, floors_next}
use Rattle.av_sched.proofs.cost.floors_of.Goals as goal

pub loop-k-init : goal.loop-k-init
loop-k-init c =
    let p : Price = record { left = 0; size = 0 } in
    let e : c.push.new.self.items ≡ p ∷ [] = c.in_ok-push.ensures.items ∙ ap (λ (xs : List Price). xs ++ p ∷ []) c.new-floors.ensures.items in
    record {
      all = λ s size component lists priced. floors_one s size component c.push.new.self.items p e (floors_first s size component p refl refl);
      last = λ s size component lists priced. floors_first s size component p refl refl;
    }

pub loop-k-preserved : goal.loop-k-preserved
loop-k-preserved c =
    let k = c.loop-k.k in
    let t : k < length c.args.prices.now = c.loop-k-test.true in
    let list = c.index-prices-prices.result in
    let lefts = subst (All (λ (p : Price). c.least_of.result.left ≤ p.left)) c.as_slice.ensures c.least_of.ensures.left in
    let sizes = subst (All (λ (p : Price). c.least_of.result.size ≤ p.size)) c.as_slice.ensures c.least_of.ensures.size in
    record {
      all = λ s size component lists priced.
          let l : k < length component = (let z = priced.prices.one_each in omega (arith, t, z)) in
          let own = floors_next s size component k lists c.args.prices.now list c.least_of.result c.loop-k.floor c.at_least-floor.result l priced.within priced.lists priced.prices c.index-prices-prices.is lefts sizes (c.loop-k.invariant.last s size component lists priced) c.at_least-floor.ensures.left c.at_least-floor.ensures.size in
          subst (AreFloorsTo s size component (k + 1)) (sym c.in_ok-push-2.ensures.items) (floors_push s size component k c.loop-k.floors.items c.at_least-floor.result (c.loop-k.invariant.all s size component lists priced) own);
      last = λ s size component lists priced.
          let l : k < length component = (let z = priced.prices.one_each in omega (arith, t, z)) in
          floors_next s size component k lists c.args.prices.now list c.least_of.result c.loop-k.floor c.at_least-floor.result l priced.within priced.lists priced.prices c.index-prices-prices.is lefts sizes (c.loop-k.invariant.last s size component lists priced) c.at_least-floor.ensures.left c.at_least-floor.ensures.size;
    }

pub returns : goal.returns
returns c = λ s size component lists priced.
    let a : length c.args.prices.now ≤ c.loop-k.k = c.loop-k-test.false in
    let b : c.loop-k.k ≤ length c.args.prices.now = search rules in
    let z = priced.prices.one_each in
    let e : c.loop-k.k ≡ length component = omega (arith, a, b, z) in
    subst (λ (n : ℕ). AreFloorsTo s size component n c.loop-k.floors.items) e (c.loop-k.invariant.all s size component lists priced)
