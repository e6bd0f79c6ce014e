use Rattle.std.proofs.Common.{◌<◌, ◌∙◌, sym, subst, length, List, get_or, ◌+◌, All, arith}
use Rattle.std.specs.Prelude.{slice_get}
use Rattle.av_affine.specs.Numbers.{AtMost}
use Rattle.av_flat.specs.Trees.{view_system}
use Rattle.av_flat.specs.Nodes.{nodes}
use Rattle.av_tree.specs.Points.{Point}
use Rattle.av_sched.specs.Order.{references_of}
use Rattle.av_sched.specs.Prices.{ArePricesAt, ArePricesTo}
use Rattle.av_sched.proofs.Pricing.{lists_priced}
use Rattle.av_sched.proofs.Ways.{small_ways}
use Rattle.av_sched.proofs.cost.prices_of.Goals as goal

pub prices_at-requires-clause-ways : goal.prices_at-requires-clause-ways
prices_at-requires-clause-ways c =
    let node = get_or c.args.component.now c.loop-k.k 0 in
    subst (All (All (AtMost 1))) (sym (c.as_slice.ensures ∙ c.in_ok-ways.ensures)) (small_ways (references_of (slice_get (nodes (view_system c.args.flat.now)) node)))

pub prices_at-requires-clause-small : goal.prices_at-requires-clause-small
prices_at-requires-clause-small c =
    let l : c.loop-k.k < length c.args.lists.now = (let t = c.loop-k-test.true in let e = c.requires.lists in omega (arith, t, e)) in
    subst (All (AtMost 4)) (sym (c.as_slice-in-loop-k.ensures ∙ c.index-lists-k.is)) (c.requires.small c.loop-k.k c.index-lists-k.result l)

pub loop-k-preserved : goal.loop-k-preserved
loop-k-preserved c =
    let s = view_system c.args.flat.now in
    let component = c.args.component.now in
    let k = c.loop-k.k in
    let l : k < length component = c.loop-k-test.true in
    let own = subst (λ (xs : List Point). ArePricesAt s (get_or component k 0) xs c.in_ok-prices_at.field-0) c.as_slice-in-loop-k.ensures (c.in_ok-prices_at.ensures s (get_or component k 0) (c.as_slice.ensures ∙ c.in_ok-ways.ensures)) in
    subst (ArePricesTo s component (k + 1) c.args.lists.now) (sym c.in_ok-push.ensures.ok)
    (lists_priced s component k c.args.lists.now c.loop-k.prices c.index-lists-k.result c.in_ok-prices_at.field-0 l c.requires.lists c.index-lists-k.is own c.loop-k.invariant)
