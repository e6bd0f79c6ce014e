use Rattle.std.proofs.Common.{rules, ◌<◌, ◌≤◌, ◌^◌, ◌∙◌, refl, sym, ap, subst, length, take, arith, ℕ, List, OnOk}
use Rattle.av_base.proofs.Lists.{take_whole}
use Rattle.av_tree.specs.Points.{Point}
use Rattle.av_sched.specs.declared.price.Price.{Price}
use Rattle.av_sched.specs.inner.Walks.{Walk, ArePartsAt, ArePricesOf, HasSpent, HasCovered}
use Rattle.av_sched.specs.inner.WalkInside.{walk_of}
use Rattle.av_sched.proofs.Steps.{take_more}
use Rattle.av_sched.proofs.Covering.{IsCovering, is_at, covering_start, covering_more, covering_done, put_fits, put_part, tried_part, part_there, spent_room, spent_put, fewer_left}
use Rattle.av_sched.proofs.walk.Walk.+cover.Goals as goal

-- ---- where choices may be left out, or all parts are chosen

pub returns-then-branch : goal.returns-then-branch
returns-then-branch t c =
    subst (λ (v : Walk). HasCovered c.args.self.now c.args.level v) (sym c.in_ok-is_barred.ensures.same) (c.in_ok-is_barred.ensures.barred c.if-branch.true)

pub leaf-requires : goal.leaf-requires
leaf-requires t c =
    let w = c.is_barred.new.self in
    let all = c.if-level-levels.true ∙ ap length c.component-levels.ensures ∙ ap (λ (v : Walk). length v.choices.component) c.self.view_is in
    subst (λ (k : ℕ). HasSpent w k c.args.spent) all (subst (λ (v : Walk). HasSpent v c.args.level c.args.spent) (sym c.in_ok-is_barred.ensures.same) c.requires.spent)

pub returns-then-level-levels : goal.returns-then-level-levels
returns-then-level-levels t c =
    let w = c.is_barred.new.self in
    let all = c.if-level-levels.true ∙ ap length c.component-levels.ensures ∙ ap (λ (v : Walk). length v.choices.component) c.self.view_is in
    subst (λ (v : Walk). OnOk c.leaf.result (HasCovered v c.args.level c.leaf.new.self)) c.in_ok-is_barred.ensures.same
    (subst (λ (k : ℕ). OnOk c.leaf.result (HasCovered w k c.leaf.new.self)) (sym all) c.leaf.ensures)

-- ---- the parts of one node in turn

pub overflow_add-next : goal.overflow_add-next
overflow_add-next t c =
    let at = is_at c.args.self.now c.is_barred.new.self (walk_of c.self.inside) c.args.level c.component-levels.result.now c.requires.level c.in_ok-is_barred.ensures.same c.self.view_is c.component-levels.ensures c.if-level-levels.false c.self.invariant.fits c.self.invariant.valid c.self.invariant.sound in
    let fits = at.fits in
    let all = ap length c.component-levels.ensures ∙ ap (λ (v : Walk). length v.choices.component) c.self.view_is in
    let short : c.args.level < length c.component-levels.result.now = omega (arith, fits, all) in
    search (rules, short)

pub part_at-before-requires : goal.part_at-before-requires
part_at-before-requires t c =
    (is_at c.args.self.now c.is_barred.new.self (walk_of c.self.inside) c.args.level c.component-levels.result.now c.requires.level c.in_ok-is_barred.ensures.same c.self.view_is c.component-levels.ensures c.if-level-levels.false c.self.invariant.fits c.self.invariant.valid c.self.invariant.sound).fits

pub candidates-requires : goal.candidates-requires
candidates-requires t c =
    subst (λ (v : Walk). c.args.level < length v.choices.component) (sym c.self.view_is)
    (is_at c.args.self.now c.is_barred.new.self (walk_of c.self.inside) c.args.level c.component-levels.result.now c.requires.level c.in_ok-is_barred.ensures.same c.self.view_is c.component-levels.ensures c.if-level-levels.false c.self.invariant.fits c.self.invariant.valid c.self.invariant.sound).fits

pub loop-k-init : goal.loop-k-init
loop-k-init t c =
    covering_start c.is_barred.new.self c.args.level
    (is_at c.args.self.now c.is_barred.new.self (walk_of c.self.inside) c.args.level c.component-levels.result.now c.requires.level c.in_ok-is_barred.ensures.same c.self.view_is c.component-levels.ensures c.if-level-levels.false c.self.invariant.fits c.self.invariant.valid c.self.invariant.sound)

pub put-requires-clause-level : goal.put-requires-clause-level
put-requires-clause-level t c =
    put_fits c.is_barred.new.self c.args.level
    (is_at c.args.self.now c.is_barred.new.self (walk_of c.self.inside) c.args.level c.component-levels.result.now c.requires.level c.in_ok-is_barred.ensures.same c.self.view_is c.component-levels.ensures c.if-level-levels.false c.self.invariant.fits c.self.invariant.valid c.self.invariant.sound)
    (take c.loop-k.k c.candidates.result.0.now) c.loop-k.self c.loop-k.invariant

pub put-requires-clause-part : goal.put-requires-clause-part
put-requires-clause-part t c =
    let w = c.is_barred.new.self in
    let level = c.args.level in
    let items = c.candidates.result.0.now in
    let at = is_at c.args.self.now w (walk_of c.self.inside) level c.component-levels.result.now c.requires.level c.in_ok-is_barred.ensures.same c.self.view_is c.component-levels.ensures c.if-level-levels.false c.self.invariant.fits c.self.invariant.valid c.self.invariant.sound in
    let l : c.loop-k.k < length items = search rules in
    let parts = subst (λ (v : Walk). ArePartsAt v.choices level items) c.self.view_is c.candidates.ensures.parts in
    put_part w level at (take c.loop-k.k items) c.loop-k.self c.index-parts-k.result c.loop-k.invariant (tried_part w level at items c.loop-k.k c.index-parts-k.result parts l c.index-parts-k.is)

pub with_more-own-requires-clause-left : goal.with_more-own-requires-clause-left
with_more-own-requires-clause-left t c =
    let w = c.is_barred.new.self in
    let level = c.args.level in
    let items = c.candidates.result.0.now in
    let costs = c.candidates.result.1.now in
    let at = is_at c.args.self.now w (walk_of c.self.inside) level c.component-levels.result.now c.requires.level c.in_ok-is_barred.ensures.same c.self.view_is c.component-levels.ensures c.if-level-levels.false c.self.invariant.fits c.self.invariant.valid c.self.invariant.sound in
    let small : level < 2 ^ 64 = search rules in
    let l : c.loop-k.k < length items = search rules in
    let free : Price = record { left = 0; size = 0 } in
    let before = subst (λ (v : Walk). HasSpent v level c.args.spent) (sym c.in_ok-is_barred.ensures.same) c.requires.spent in
    let prices = subst (λ (v : Walk). ArePricesOf v.choices level items costs) c.self.view_is c.candidates.ensures.prices in
    (spent_room w level at items costs c.loop-k.k c.index-parts-k.result c.args.spent free small before prices l c.index-parts-k.is).0

pub with_more-own-requires-clause-size : goal.with_more-own-requires-clause-size
with_more-own-requires-clause-size t c =
    let w = c.is_barred.new.self in
    let level = c.args.level in
    let items = c.candidates.result.0.now in
    let costs = c.candidates.result.1.now in
    let at = is_at c.args.self.now w (walk_of c.self.inside) level c.component-levels.result.now c.requires.level c.in_ok-is_barred.ensures.same c.self.view_is c.component-levels.ensures c.if-level-levels.false c.self.invariant.fits c.self.invariant.valid c.self.invariant.sound in
    let small : level < 2 ^ 64 = search rules in
    let l : c.loop-k.k < length items = search rules in
    let free : Price = record { left = 0; size = 0 } in
    let before = subst (λ (v : Walk). HasSpent v level c.args.spent) (sym c.in_ok-is_barred.ensures.same) c.requires.spent in
    let prices = subst (λ (v : Walk). ArePricesOf v.choices level items costs) c.self.view_is c.candidates.ensures.prices in
    (spent_room w level at items costs c.loop-k.k c.index-parts-k.result c.args.spent free small before prices l c.index-parts-k.is).1

pub cover-requires : goal.cover-requires
cover-requires t c =
    let w = c.is_barred.new.self in
    let level = c.args.level in
    let items = c.candidates.result.0.now in
    let costs = c.candidates.result.1.now in
    let at = is_at c.args.self.now w (walk_of c.self.inside) level c.component-levels.result.now c.requires.level c.in_ok-is_barred.ensures.same c.self.view_is c.component-levels.ensures c.if-level-levels.false c.self.invariant.fits c.self.invariant.valid c.self.invariant.sound in
    let tried = take c.loop-k.k items in
    let l : c.loop-k.k < length items = search rules in
    let free : Price = record { left = 0; size = 0 } in
    let before = subst (λ (v : Walk). HasSpent v level c.args.spent) (sym c.in_ok-is_barred.ensures.same) c.requires.spent in
    let prices = subst (λ (v : Walk). ArePricesOf v.choices level items costs) c.self.view_is c.candidates.ensures.prices in
    let left = fewer_left w level at c.args.self.now tried c.loop-k.self c.put.new.self c.index-parts-k.result c.loop-k.invariant c.put.ensures c.in_ok-is_barred.ensures.same in
    let fewer = left.1 in
    let decreases = c.decreases in (
      omega (arith, fewer, decreases),
      (
        left.0,
        spent_put w level at tried items costs c.loop-k.k c.loop-k.self c.put.new.self c.index-parts-k.result c.args.spent free c.with_more-own.result c.loop-k.invariant c.put.ensures before prices l c.index-parts-k.is c.with_more-own.ensures.left c.with_more-own.ensures.size,
      ),
    )

pub loop-k-preserved : goal.loop-k-preserved
loop-k-preserved t c =
    let w = c.is_barred.new.self in
    let level = c.args.level in
    let items = c.candidates.result.0.now in
    let at = is_at c.args.self.now w (walk_of c.self.inside) level c.component-levels.result.now c.requires.level c.in_ok-is_barred.ensures.same c.self.view_is c.component-levels.ensures c.if-level-levels.false c.self.invariant.fits c.self.invariant.valid c.self.invariant.sound in
    let l : c.loop-k.k < length items = search rules in
    let tried = take_more items c.loop-k.k c.index-parts-k.result c.index-parts-k.result l c.index-parts-k.is refl in
    subst (λ (xs : List Point). IsCovering w level xs c.cover.new.self) (sym tried)
    (covering_more w level at (take c.loop-k.k items) c.loop-k.self c.put.new.self c.cover.new.self c.index-parts-k.result c.loop-k.invariant c.put.ensures c.in_ok-cover.ensures)

-- ---- after all parts

pub put-requires-2-clause-level : goal.put-requires-2-clause-level
put-requires-2-clause-level t c =
    put_fits c.is_barred.new.self c.args.level
    (is_at c.args.self.now c.is_barred.new.self (walk_of c.self.inside) c.args.level c.component-levels.result.now c.requires.level c.in_ok-is_barred.ensures.same c.self.view_is c.component-levels.ensures c.if-level-levels.false c.self.invariant.fits c.self.invariant.valid c.self.invariant.sound)
    (take c.loop-k.k c.candidates.result.0.now) c.loop-k.self c.loop-k.invariant

pub put-requires-2-clause-part : goal.put-requires-2-clause-part
put-requires-2-clause-part t c =
    let w = c.is_barred.new.self in
    let level = c.args.level in
    let at = is_at c.args.self.now w (walk_of c.self.inside) level c.component-levels.result.now c.requires.level c.in_ok-is_barred.ensures.same c.self.view_is c.component-levels.ensures c.if-level-levels.false c.self.invariant.fits c.self.invariant.valid c.self.invariant.sound in
    put_part w level at (take c.loop-k.k c.candidates.result.0.now) c.loop-k.self c.part_at-before.result c.loop-k.invariant (part_there w level at c.part_at-before.result c.part_at-before.ensures)

pub returns : goal.returns
returns t c =
    let w = c.is_barred.new.self in
    let level = c.args.level in
    let items = c.candidates.result.0.now in
    let at = is_at c.args.self.now w (walk_of c.self.inside) level c.component-levels.result.now c.requires.level c.in_ok-is_barred.ensures.same c.self.view_is c.component-levels.ensures c.if-level-levels.false c.self.invariant.fits c.self.invariant.valid c.self.invariant.sound in
    let over : length items ≤ c.loop-k.k = search rules in
    let parts = subst (λ (v : Walk). ArePartsAt v.choices level items) c.self.view_is c.candidates.ensures.parts in
    let done = subst (λ (xs : List Point). IsCovering w level xs c.loop-k.self) (take_whole items c.loop-k.k over) c.loop-k.invariant in
    subst (λ (v : Walk). HasCovered v level c.put-2.new.self) c.in_ok-is_barred.ensures.same
    (covering_done w level at items c.loop-k.self c.put-2.new.self c.part_at-before.result parts done c.part_at-before.ensures c.put-2.ensures)
