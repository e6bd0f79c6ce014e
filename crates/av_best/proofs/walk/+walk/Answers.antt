use Rattle.std.proofs.Common.{rules, ◌≡◌, ◌<◌, ◌≤◌, ◌∙◌, sym, ap, subst, length, suc, pos, add-one, take, drop, refl, ◌++◌, ◌∷◌, [], arith, get_or, ℕ, ◌+◌}
use Rattle.std.specs.Prelude.{List, slice_set, slice_index_or}
use Rattle.std.proofs.Math.ListN.{length-set}
use Rattle.av_flat.specs.Trees.{view_system}
use Rattle.av_flat.specs.Nodes.{nodes}
use Rattle.av_tree.specs.Points.{Point}
use Rattle.av_sched.specs.declared.price.Price.{Price}
use Rattle.av_sched.specs.Parts.{AreParts}
use Rattle.av_sched.specs.Prices.{IsSpent, IsFloor, ArePricesAt}
use Rattle.av_sched.proofs.Steps.{parts_at, part_is_valid, take_more}
use Rattle.av_sched.proofs.Pricing.{price_there, floor_at}
use Rattle.av_base.proofs.Lists.{same_default, take_whole}
use Rattle.av_best.specs.declared.span.PartSpan.{PartSpan}
use Rattle.av_best.specs.declared.space.Estimate.{Estimate}
use Rattle.av_best.specs.inner.Spans.{AreSpanned}
use Rattle.av_best.specs.inner.Joint.{IsBound, IsBounded, HasWalked}
use Rattle.av_best.proofs.Every.{as_many, node_there}
use Rattle.av_best.proofs.Leaving.{barred_none, barred_behind}
use Rattle.av_best.proofs.Spanning.{span_there}
use Rattle.av_best.proofs.Trying.{IsWalking, nothing_there, walking_more, walking_done, set_valid, same_next, spanned_now, spanned_back, spanned_more, spanned_less, spent_there}
use Rattle.av_best.proofs.walk.+walk.Goals as goal

pub walk-leaf-requires-clause-bound : goal.walk-leaf-requires-clause-bound
walk-leaf-requires-clause-bound t c =
    let e : c.args.level ≡ length c.args.space.now.nodes.now = search rules in
    subst (λ (n : ℕ). IsBound (view_system c.args.space.now.flat.now) c.args.space.now.reach.size n c.args.linear.now c.args.estimate.cycles) e c.requires.bound

pub walk-bounds-linear-level : goal.walk-bounds-linear-level
walk-bounds-linear-level t c =
    let fits : c.args.level < length c.args.space.now.nodes.now = search rules in
    let one = c.requires.linear.one_each in
    let e = ap length c.requires.space.nodes ∙ as_many (view_system c.args.space.now.flat.now) in
    omega (arith, fits, one, e)

pub walk-bounds-linear-level-in-loop-k : goal.walk-bounds-linear-level-in-loop-k
walk-bounds-linear-level-in-loop-k t c =
    let fits : c.args.level < length c.args.space.now.nodes.now = search rules in
    let one = c.loop-k.invariant.walking.valid.one_each in
    let e = ap length c.requires.space.nodes ∙ as_many (view_system c.args.space.now.flat.now) in
    omega (arith, fits, one, e)

pub walk-bounds-linear-level-2 : goal.walk-bounds-linear-level-2
walk-bounds-linear-level-2 t c =
    let fits : c.args.level < length c.args.space.now.nodes.now = search rules in
    let one = c.loop-k.invariant.walking.valid.one_each in
    let e = ap length c.requires.space.nodes ∙ as_many (view_system c.args.space.now.flat.now) in
    omega (arith, fits, one, e)

pub walk_unless_barred-returns-in_default-clause-walked : goal.walk_unless_barred-returns-in_default-clause-walked
walk_unless_barred-returns-in_default-clause-walked t c =
    let s = view_system c.args.space.now.flat.now in
    let size = c.args.space.now.reach.size in
    let forbidden = subst (IsBounded s size c.args.level c.args.linear.now) c.in_default.is c.in_ok-cycles.ensures in
    nothing_there s size c.args.level c.args.linear.now c.args.best c.requires.best (barred_none s size c.args.level c.args.linear.now c.args.best forbidden)

pub walk_unless_barred-returns-then-is_behind-clause-walked : goal.walk_unless_barred-returns-then-is_behind-clause-walked
walk_unless_barred-returns-then-is_behind-clause-walked t c =
    let s = view_system c.args.space.now.flat.now in
    let ns = c.args.space.now.nodes.now in
    let size = c.args.space.now.reach.size in
    let level = c.args.level in
    let linear = c.args.linear.now in
    let estimate : Estimate = record { spent = c.args.spent; cycles = c.in-Some.cycles } in
    let rest = c.index-rest.result.now in
    let bound = subst (IsBounded s size level linear) c.in-Some.is c.in_ok-cycles.ensures in
    let spent = subst (λ (xs : List ℕ). IsSpent s linear (take level xs) c.args.spent) c.requires.space.nodes c.requires.spent in
    let least = floor_at s size ns c.args.space.now.plan.now.floors.items level _ rest c.requires.space.floors c.requires.level refl c.index-rest.ensures in
    let floor = subst (λ (xs : List ℕ). IsFloor s size (drop level xs) rest) c.requires.space.nodes least in
    nothing_there s size level linear c.args.best c.requires.best
    (barred_behind s size level linear c.args.best estimate rest c.requires.best bound spent floor (c.is_behind.ensures c.if-is_behind.true))

pub walk-walk_unless_barred-requires : goal.walk-walk_unless_barred-requires
walk-walk_unless_barred-requires t c =
    let s = view_system c.args.space.now.flat.now in
    let ns = c.args.space.now.nodes.now in
    let size = c.args.space.now.reach.size in
    let level = c.args.level in
    let k = c.loop-k.k in
    let start = c.args.linear.now in
    let now = c.loop-k.linear in
    let items = c.as_slice-parts.result.now in
    let priced = c.as_slice-prices.result.now in
    let reaches = c.as_slice-reaches.result.now in
    let old = c.args.best in
    let h = c.loop-k.invariant.walking in
    let v = c.copy_point.result in
    let fits : level < length ns = search rules in
    let many = ap length c.requires.space.nodes ∙ as_many s in
    let inside : level < length (nodes s) = omega (arith, fits, many) in
    let l : k < length items = search rules in
    let there : slice_index_or ns level 0 ≡ level = ap (λ xs. slice_index_or xs level 0) c.requires.space.nodes ∙ node_there s level 0 inside in
    let of_start = c.requires.linear.one_each in
    let of_now = h.valid.one_each in
    let wide = c.loop-k.invariant.wide in
    let at = c.index-as_slice-level.is ∙ ap (λ (xs : List (List Point)). get_or xs level c.index-as_slice-level.result) c.as_slice.ensures in
    let at2 = c.index-as_slice-level-2.is ∙ ap (λ (xs : List (List Price)). get_or xs level c.index-as_slice-level-2.result) c.as_slice-2.ensures in
    let are = subst (λ (n : ℕ). AreParts s size n items) there (parts_at s size ns c.args.space.now.plan.now.lists level c.index-as_slice-level.result items c.requires.space.lists fits at c.as_slice-parts.ensures) in
    let own = part_is_valid s size level items k c.index-parts-k.result v are l c.index-parts-k.is c.copy_point.ensures in
    let in_lists : level < length c.args.space.now.plan.now.lists = (let z = c.requires.space.lists.one_each in omega (arith, fits, z)) in
    let in_prices : level < length c.args.space.now.plan.now.prices = (let z = c.requires.space.prices.one_each in omega (arith, fits, z)) in
    let in_table : level < length c.args.space.now.table.now = (let z = c.requires.space.table.one_each in omega (arith, fits, z)) in
    let free : Price = record { left = 0; size = 0 } in
    let blank : PartSpan = record { low = pos 0; high = pos 0 } in
    let list = slice_index_or c.args.space.now.plan.now.lists level [] in
    let of_list : items ≡ list = c.as_slice-parts.ensures ∙ at ∙ same_default c.args.space.now.plan.now.lists level c.index-as_slice-level.result [] in_lists in
    let of_prices = c.as_slice-prices.ensures ∙ at2 ∙ same_default c.args.space.now.plan.now.prices level c.index-as_slice-level-2.result [] in_prices in
    let of_table = c.as_slice-reaches.ensures ∙ c.index-table-level.is ∙ same_default c.args.space.now.table.now level c.index-table-level.result [] in_table in
    let prices = subst (λ (n : ℕ). ArePricesAt s n list (slice_index_or c.args.space.now.plan.now.prices level [])) there (c.requires.space.prices.each level fits) in
    let price = price_there s level list items (slice_index_or c.args.space.now.plan.now.prices level []) priced k c.index-parts-k.result v prices of_list of_prices l c.index-parts-k.is c.copy_point.ensures free in
    let span = span_there s level list items (slice_index_or c.args.space.now.table.now level []) reaches k c.index-parts-k.result v (c.requires.space.table.each level fits) of_list of_table l c.index-parts-k.is c.copy_point.ensures blank in
    let same = same_next s size level inside start now (take k items) old c.loop-k.best v h in
    let so_far = subst (λ (xs : List ℕ). IsSpent s start (take level xs) c.args.estimate.spent) c.requires.space.nodes c.requires.spent in
    let spent = spent_there s level start (slice_set now level v) v c.args.estimate.spent (get_or priced k free) c.with_more-own.result inside (omega (arith, inside, of_start)) same so_far price c.with_more-own.ensures.left c.with_more-own.ensures.size in
    let spanned = spanned_more s level now c.loop-k.spans v (get_or reaches k blank) (omega (arith, inside, of_now)) (omega (arith, fits, wide)) span (spanned_now s size level start now (take k items) old c.loop-k.best c.loop-k.spans h c.loop-k.invariant.spanned) in
    let decreases = c.decreases in (
      omega (arith, fits, decreases),
      (
        c.requires.space,
        (
          omega (arith, fits),
          (
            set_valid s size level inside now v own h.valid,
            (
              subst (λ (n : ℕ). AreSpanned s n (slice_set now level v) (slice_set c.loop-k.spans level (get_or reaches k blank))) (sym (add-one level)) spanned,
              (
                length-set c.loop-k.spans level (get_or reaches k blank) ∙ wide,
                (subst (λ (xs : List ℕ). IsSpent s (slice_set now level v) (take (level + 1) xs) c.with_more-own.result) (sym c.requires.space.nodes) spent, (c.loop-k.invariant.places, h.done.sound)),
              ),
            ),
          ),
        ),
      ),
    )

pub walk-loop-k-preserved : goal.walk-loop-k-preserved
walk-loop-k-preserved t c =
    let s = view_system c.args.space.now.flat.now in
    let ns = c.args.space.now.nodes.now in
    let size = c.args.space.now.reach.size in
    let level = c.args.level in
    let k = c.loop-k.k in
    let start = c.args.linear.now in
    let now = c.loop-k.linear in
    let items = c.as_slice-parts.result.now in
    let old = c.args.best in
    let best = c.in_ok-best.best in
    let h = c.loop-k.invariant.walking in
    let v = c.copy_point.result in
    let fits : level < length ns = search rules in
    let many = ap length c.requires.space.nodes ∙ as_many s in
    let inside : level < length (nodes s) = omega (arith, fits, many) in
    let l : k < length items = search rules in
    let there : slice_index_or ns level 0 ≡ level = ap (λ xs. slice_index_or xs level 0) c.requires.space.nodes ∙ node_there s level 0 inside in
    let at = c.index-as_slice-level.is ∙ ap (λ (xs : List (List Point)). get_or xs level c.index-as_slice-level.result) c.as_slice.ensures in
    let are = subst (λ (n : ℕ). AreParts s size n items) there (parts_at s size ns c.args.space.now.plan.now.lists level c.index-as_slice-level.result items c.requires.space.lists fits at c.as_slice-parts.ensures) in
    let own = part_is_valid s size level items k c.index-parts-k.result v are l c.index-parts-k.is c.copy_point.ensures in
    let next = slice_set now level v in
    let tried = take_more items k c.index-parts-k.result v l c.index-parts-k.is c.copy_point.ensures in
    let linear = c.walk_unless_barred.new.linear in
    let spans = c.walk_unless_barred.new.spans in
    let same : linear ≡ next = search rules in
    let walked : HasWalked s size (suc level) next c.loop-k.best best = subst (λ (n : ℕ). HasWalked s size n next c.loop-k.best best) (add-one level) c.in_ok-best.ensures.walked in
    let walking = walking_more s size level inside start now (take k items) old c.loop-k.best best v own h c.requires.linear walked in
    let here : AreSpanned s (suc level) next spans = subst (λ (n : ℕ). AreSpanned s n next spans) (add-one level) c.in_ok-best.ensures.spanned in
    record {
      walking = subst (λ (xs : List Point). IsWalking s size level start linear xs old best) (sym tried) (subst (λ (xs : List Point). IsWalking s size level start xs (take k items ++ v ∷ []) old best) (sym same) walking);
      spanned = spanned_back s size level start next (take k items ++ v ∷ []) old best spans walking (spanned_less s level next spans here);
      wide = search rules;
      places = search rules;
    }

pub walk-returns-clause-walked : goal.walk-returns-clause-walked
walk-returns-clause-walked t c =
    let s = view_system c.args.space.now.flat.now in
    let ns = c.args.space.now.nodes.now in
    let size = c.args.space.now.reach.size in
    let level = c.args.level in
    let items = c.as_slice-parts.result.now in
    let fits : level < length ns = search rules in
    let many = ap length c.requires.space.nodes ∙ as_many s in
    let inside : level < length (nodes s) = omega (arith, fits, many) in
    let there : slice_index_or ns level 0 ≡ level = ap (λ xs. slice_index_or xs level 0) c.requires.space.nodes ∙ node_there s level 0 inside in
    let at = c.index-as_slice-level.is ∙ ap (λ (xs : List (List Point)). get_or xs level c.index-as_slice-level.result) c.as_slice.ensures in
    let are = subst (λ (n : ℕ). AreParts s size n items) there (parts_at s size ns c.args.space.now.plan.now.lists level c.index-as_slice-level.result items c.requires.space.lists fits at c.as_slice-parts.ensures) in
    let over : length items ≤ c.loop-k.k = search rules in
    let h = subst (λ (xs : List Point). IsWalking s size level c.args.linear.now c.loop-k.linear xs c.args.best c.loop-k.best) (take_whole items c.loop-k.k over) c.loop-k.invariant.walking in
    walking_done s size level inside c.args.linear.now c.loop-k.linear items c.args.best c.loop-k.best are h

pub walk_unless_barred-walk-requires : goal.walk_unless_barred-walk-requires
walk_unless_barred-walk-requires t c =
    let decreases = c.decreases in
    let bound = subst (IsBounded (view_system c.args.space.now.flat.now) c.args.space.now.reach.size c.args.level c.args.linear.now) c.in-Some.is c.in_ok-cycles.ensures in (
      omega (arith, decreases),
      (
        c.requires.space,
        (
          c.requires.level,
          (c.requires.linear, (c.requires.spanned, (c.requires.wide, (c.requires.spent, (bound, (c.requires.pool, c.requires.best)))))),
        ),
      ),
    )
