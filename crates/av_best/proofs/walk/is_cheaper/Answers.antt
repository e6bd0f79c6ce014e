use Rattle.std.proofs.Common.{◌<◌, ◌↔◌, sym, subst, List, ℕ, IsTrue, Bool, IfOk, All, length, map}
use Rattle.std.specs.List.{flat_map}
use Rattle.std.proofs.lemmas.Result.{IfOk-weaker}
use Rattle.av_affine.specs.Numbers.{AtMost}
use Rattle.av_flat.specs.Trees.{view_system}
use Rattle.av_tree.specs.Points.{Point}
use Rattle.av_sched.specs.Offsets.{part}
use Rattle.av_sched.specs.Order.{entry_rank, cost, IsLess}
use Rattle.av_sched.specs.Prices.{IsSpent}
use Rattle.av_sched.proofs.Pricing.{by_ranks, small_parts}
use Rattle.av_best.proofs.Every.{parts_within}
use Rattle.av_best.proofs.walk.is_cheaper.Goals as goal

pub is_earlier-requires-clause-within : goal.is_earlier-requires-clause-within
is_earlier-requires-clause-within c = parts_within (view_system c.args.space.now.flat.now) c.args.space.now.reach.size c.args.linear.now c.args.space.now.nodes.now c.requires.space.nodes c.requires.linear

pub is_earlier-requires-clause-small : goal.is_earlier-requires-clause-small
is_earlier-requires-clause-small c = small_parts (view_system c.args.space.now.flat.now) c.args.space.now.reach.size c.args.linear.now c.args.space.now.reach.most c.requires.linear

pub is_earlier-requires-clause-others : goal.is_earlier-requires-clause-others
is_earlier-requires-clause-others c =
    subst (λ (ps : List Point). All (λ n. n < length ps) c.args.space.now.nodes.now) (sym c.deref.ensures.value)
    (parts_within (view_system c.args.space.now.flat.now) c.args.space.now.reach.size c.args.best.now.parts.items c.args.space.now.nodes.now c.requires.space.nodes c.requires.best.are)

pub is_earlier-requires-clause-others_small : goal.is_earlier-requires-clause-others_small
is_earlier-requires-clause-others_small c =
    subst (All (AtMost 4)) (sym c.deref.ensures.value) (small_parts (view_system c.args.space.now.flat.now) c.args.space.now.reach.size c.args.best.now.parts.items c.args.space.now.reach.most c.requires.best.are)

pub returns : goal.returns
returns c =
    let s = view_system c.args.space.now.flat.now in
    let ns = c.args.space.now.nodes.now in
    let linear = c.args.linear.now in
    let parts = c.args.best.now.parts.items in
    let own = map entry_rank (flat_map (part linear) ns) in
    let rated = subst (λ (xs : List ℕ). IsSpent s parts xs c.args.best.now.price) (sym c.requires.space.nodes) c.requires.best.spent in
    let h = by_ranks s ns linear c.args.spent parts c.args.best.now.price c.requires.spent rated c.if-spent-best.false c.if-spent-best-2.false in
    let e = subst (λ (ps : List Point). IfOk c.is_earlier.result (λ (b : Bool). IsTrue b ↔ IsLess own (map entry_rank (flat_map (part ps) ns)))) c.deref.ensures.value c.is_earlier.ensures in
    IfOk-weaker c.is_earlier.result (λ (b : Bool). IsTrue b ↔ IsLess own (map entry_rank (flat_map (part parts) ns))) (λ (b : Bool). IsTrue b ↔ IsLess (cost s ns linear) (cost s ns parts))
    (λ b t. ((λ a. h.0 (t.0 a)), (λ a. t.1 (h.1 a)))) e
