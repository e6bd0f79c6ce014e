use Rattle.std.proofs.Common.{◌∙◌, ap, sym, subst, length, List, All}
use Rattle.av_affine.specs.Numbers.{AtMost}
use Rattle.av_tree.specs.Points.{Point}
use Rattle.av_flat.specs.Trees.{view_system}
use Rattle.av_sched.specs.declared.price.Price.{Price}
use Rattle.av_sched.specs.Prices.{ArePricesTo}
use Rattle.av_sched.specs.inner.Walk.{AreAllPriced}
use Rattle.av_sched.proofs.Pricing.{small_lists}
use Rattle.av_sched.proofs.plan.plan_of.Goals as goal

pub prices_of-requires-clause-lists : goal.prices_of-requires-clause-lists
prices_of-requires-clause-lists c = ap (λ (xs : List (List Point)). length xs) c.as_slice.ensures ∙ c.in_ok-lists.ensures.one_each

pub prices_of-requires-clause-small : goal.prices_of-requires-clause-small
prices_of-requires-clause-small c =
    subst (All (All (AtMost 4))) (sym c.as_slice.ensures)
    (small_lists (view_system c.args.flat.now) c.args.reach.size c.args.component.now c.in_ok-lists.lists c.args.reach.most c.requires.within c.in_ok-lists.ensures)

pub returns-clause-prices : goal.returns-clause-prices
returns-clause-prices c =
    let component = c.args.component.now in
    subst (λ (xs : List (List Point)). ArePricesTo (view_system c.args.flat.now) component (length component) xs c.in_ok-prices.prices) c.as_slice.ensures c.in_ok-prices.ensures

pub returns-clause-floors : goal.returns-clause-floors
returns-clause-floors c =
    let s = view_system c.args.flat.now in
    let component = c.args.component.now in
    let lists = c.in_ok-lists.lists in
    let prices = subst (λ (xs : List (List Point)). ArePricesTo s component (length component) xs c.in_ok-prices.prices) c.as_slice.ensures c.in_ok-prices.ensures in
    c.in_ok-floors.ensures s c.args.reach.size component lists
    (subst (λ (ps : List (List Price)). AreAllPriced s c.args.reach.size component lists ps) (sym c.as_slice-2.ensures) (record { within = c.requires.within; lists = c.in_ok-lists.ensures; prices = prices }))
