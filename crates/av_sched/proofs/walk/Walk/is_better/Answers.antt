use Rattle.std.proofs.Common.{◌↔◌, ◌<◌, refl, sym, subst, length, ℕ, List, Option, Some, IsTrue, Bool, true, IfOk, map, All}
use Rattle.std.specs.Prelude.{nat_lt}
use Rattle.std.specs.List.{flat_map}
use Rattle.std.proofs.lemmas.Result.{IfOk-weaker}
use Rattle.av_affine.specs.Numbers.{AtMost}
use Rattle.av_tree.specs.Points.{Point}
use Rattle.av_sched.specs.declared.price.PricedChoice.{PricedChoice}
use Rattle.av_sched.specs.Offsets.{part}
use Rattle.av_sched.specs.Order.{entry_rank, IsLess}
use Rattle.av_sched.specs.inner.Walk.{known, IsAhead, IsSound, IsRated}
use Rattle.av_sched.specs.inner.Walks.{Walk, system_of, HasSpent, IsBetter}
use Rattle.av_sched.specs.inner.WalkInside.{walk_of}
use Rattle.av_sched.proofs.Covering.{whole_spent, within_linear}
use Rattle.av_sched.proofs.Pricing.{by_left, by_size, by_ranks, less_test, small_parts}
use Rattle.av_sched.proofs.walk.Walk.is_better.Goals as goal

pub returns-in-None : goal.returns-in-None
returns-in-None c =
    let w = c.self.inside in
    subst (λ (v : Walk). IsTrue true ↔ IsBetter v) c.self.view_is
    (subst (λ (o : Option PricedChoice). IsTrue true ↔ IsAhead (system_of w.choices.now) w.choices.now.component w.linear.items (known o)) (sym c.in-None.is) ((λ t. tt), (λ u. refl)))

pub returns-then-spent-found : goal.returns-then-spent-found
returns-then-spent-found c =
    let w = c.self.inside in
    let s = system_of w.choices.now in
    let component = w.choices.now.component in
    let found = c.in-Some.found in
    let spent = whole_spent (walk_of w) c.args.spent (subst (λ (v : Walk). HasSpent v (length v.choices.component) c.args.spent) (sym c.self.view_is) c.requires) in
    let rated = subst (IsRated s component) c.in-Some.is c.self.invariant.rated in
    let h = by_left s component w.linear.items c.args.spent found.parts.items found.price spent rated c.if-spent-found.true in
    let t = less_test c.args.spent.left found.price.left in
    subst (λ (v : Walk). IsTrue (nat_lt c.args.spent.left found.price.left) ↔ IsBetter v) c.self.view_is
    (subst (λ (o : Option PricedChoice). IsTrue (nat_lt c.args.spent.left found.price.left) ↔ IsAhead s component w.linear.items (known o)) (sym c.in-Some.is) ((λ a. h.0 (t.0 a)), (λ b. t.1 (h.1 b))))

pub returns-then-spent-found-2 : goal.returns-then-spent-found-2
returns-then-spent-found-2 c =
    let w = c.self.inside in
    let s = system_of w.choices.now in
    let component = w.choices.now.component in
    let found = c.in-Some.found in
    let spent = whole_spent (walk_of w) c.args.spent (subst (λ (v : Walk). HasSpent v (length v.choices.component) c.args.spent) (sym c.self.view_is) c.requires) in
    let rated = subst (IsRated s component) c.in-Some.is c.self.invariant.rated in
    let h = by_size s component w.linear.items c.args.spent found.parts.items found.price spent rated c.if-spent-found.false c.if-spent-found-2.true in
    let t = less_test c.args.spent.size found.price.size in
    subst (λ (v : Walk). IsTrue (nat_lt c.args.spent.size found.price.size) ↔ IsBetter v) c.self.view_is
    (subst (λ (o : Option PricedChoice). IsTrue (nat_lt c.args.spent.size found.price.size) ↔ IsAhead s component w.linear.items (known o)) (sym c.in-Some.is) ((λ a. h.0 (t.0 a)), (λ b. t.1 (h.1 b))))

pub returns-else-spent-found-2 : goal.returns-else-spent-found-2
returns-else-spent-found-2 c =
    let w = c.self.inside in
    let s = system_of w.choices.now in
    let component = w.choices.now.component in
    let linear = w.linear.items in
    let found = c.in-Some.found in
    let own = map entry_rank (flat_map (part linear) component) in
    let spent = whole_spent (walk_of w) c.args.spent (subst (λ (v : Walk). HasSpent v (length v.choices.component) c.args.spent) (sym c.self.view_is) c.requires) in
    let rated = subst (IsRated s component) c.in-Some.is c.self.invariant.rated in
    let h = by_ranks s component linear c.args.spent found.parts.items found.price spent rated c.if-spent-found.false c.if-spent-found-2.false in
    let e1 = subst (λ (ns : List ℕ). IfOk c.is_earlier.result (λ (b : Bool). IsTrue b ↔ IsLess (map entry_rank (flat_map (part c.deref.result.now) ns)) (map entry_rank (flat_map (part c.deref-in-Some.result.now) ns)))) c.component-component.ensures c.is_earlier.ensures in
    let e2 = subst (λ (ps : List Point). IfOk c.is_earlier.result (λ (b : Bool). IsTrue b ↔ IsLess (map entry_rank (flat_map (part ps) component)) (map entry_rank (flat_map (part c.deref-in-Some.result.now) component)))) c.deref.ensures.value e1 in
    let e3 = subst (λ (ps : List Point). IfOk c.is_earlier.result (λ (b : Bool). IsTrue b ↔ IsLess own (map entry_rank (flat_map (part ps) component)))) c.deref-in-Some.ensures.value e2 in
    subst (λ (v : Walk). IfOk c.is_earlier.result (λ (b : Bool). IsTrue b ↔ IsBetter v)) c.self.view_is
    (subst (λ (o : Option PricedChoice). IfOk c.is_earlier.result (λ (b : Bool). IsTrue b ↔ IsAhead s component linear (known o))) (sym c.in-Some.is)
    (IfOk-weaker c.is_earlier.result (λ (b : Bool). IsTrue b ↔ IsLess own (map entry_rank (flat_map (part found.parts.items) component))) (λ (b : Bool). IsTrue b ↔ IsAhead s component linear (known (Some found)))
    (λ b t. ((λ a. h.0 (t.0 a)), (λ a. t.1 (h.1 a)))) e3))

pub is_earlier-requires-clause-within : goal.is_earlier-requires-clause-within
is_earlier-requires-clause-within c =
    let w = c.self.inside in
    subst (λ (ns : List ℕ). All (λ n. n < length c.deref.result.now) ns) (sym c.component-component.ensures)
    (subst (λ (ps : List Point). All (λ n. n < length ps) w.choices.now.component) (sym c.deref.ensures.value) (within_linear w.choices.now w.linear.items c.self.invariant.fits c.self.invariant.valid))

pub is_earlier-requires-clause-others : goal.is_earlier-requires-clause-others
is_earlier-requires-clause-others c =
    let w = c.self.inside in
    let sound = subst (λ (o : Option PricedChoice). IsSound (system_of w.choices.now) w.choices.now.size w.choices.now.component (known o)) c.in-Some.is c.self.invariant.sound in
    subst (λ (ns : List ℕ). All (λ n. n < length c.deref-in-Some.result.now) ns) (sym c.component-component.ensures)
    (subst (λ (ps : List Point). All (λ n. n < length ps) w.choices.now.component) (sym c.deref-in-Some.ensures.value) (within_linear w.choices.now c.in-Some.found.parts.items c.self.invariant.fits sound.0))

pub is_earlier-requires-clause-small : goal.is_earlier-requires-clause-small
is_earlier-requires-clause-small c =
    let w = c.self.inside in
    let d = w.choices.now in
    subst (All (AtMost 4)) (sym c.deref.ensures.value) (small_parts (system_of d) d.size w.linear.items c.self.invariant.fits.small c.self.invariant.valid)

pub is_earlier-requires-clause-others_small : goal.is_earlier-requires-clause-others_small
is_earlier-requires-clause-others_small c =
    let d = c.self.inside.choices.now in
    let sound = subst (λ (o : Option PricedChoice). IsSound (system_of d) d.size d.component (known o)) c.in-Some.is c.self.invariant.sound in
    subst (All (AtMost 4)) (sym c.deref-in-Some.ensures.value) (small_parts (system_of d) d.size c.in-Some.found.parts.items c.self.invariant.fits.small sound.0)
