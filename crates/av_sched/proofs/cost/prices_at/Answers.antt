use Rattle.std.proofs.Common.{rules, ◌<◌, ◌^◌, sym, subst, length, [], ◌+◌, take}
use Rattle.av_sched.specs.declared.price.Price.{Price}
use Rattle.av_sched.specs.Prices.{ArePricesAt}
use Rattle.av_sched.proofs.Pricing.{price_at, prices_none, prices_more}
use Rattle.av_sched.proofs.cost.prices_at.Goals as goal

pub loop-part-init : goal.loop-part-init
loop-part-init c = λ s node is. subst (ArePricesAt s node []) (sym c.new-prices.ensures) (prices_none s node)

pub loop-part-preserved : goal.loop-part-preserved
loop-part-preserved c = λ s node is.
    let l : c.loop-part.part-index < length c.args.parts.now = search rules in
    let a = c.part-item.result in
    let p : Price = record { left = c.still_of.result; size = c.sum_of.result } in
    let small : c.sum_of.result < 2 ^ 64 = search rules in
    let few : c.still_of.result < 2 ^ 64 = search rules in
    let own = price_at s node c.args.ways.now a p is c.still_of.ensures c.sum_of.ensures.value few small in
    subst (ArePricesAt s node (take (c.loop-part.part-index + 1) c.args.parts.now)) (sym c.in_ok-push.ensures.ok)
    (prices_more s node c.loop-part.part-index c.args.parts.now c.loop-part.prices a p l c.part-item.is own (c.loop-part.invariant s node is))
