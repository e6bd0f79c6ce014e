use Rattle.std.proofs.Common.{◌<◌, ◌∙◌, sym, ap, subst, length, List, get_or, arith, []}
use Rattle.std.specs.Prelude.{slice_index_or}
use Rattle.av_base.proofs.Lists.{same_default}
use Rattle.av_tree.specs.Points.{Point}
use Rattle.av_flat.specs.Trees.{view_system}
use Rattle.av_sched.specs.declared.price.Price.{Price}
use Rattle.av_sched.specs.Prices.{ArePricesAt}
use Rattle.av_sched.specs.inner.Walks.{Choices, ArePartsAt, ArePricesOf}
use Rattle.av_sched.proofs.Steps.{parts_at}
use Rattle.av_sched.proofs.choices.Choices.candidates.Goals as goal

pub bounds-as_slice-level : goal.bounds-as_slice-level
bounds-as_slice-level c =
    let d = c.self.inside in
    let fits : c.args.level < length d.component.now = subst (λ (x : Choices). c.args.level < length x.component) (sym c.self.view_is) c.requires in
    let one = c.self.invariant.lists.one_each in
    let all = ap length c.as_slice.ensures in
    omega (arith, fits, one, all)

pub offset_bounds-as_slice-level : goal.offset_bounds-as_slice-level
offset_bounds-as_slice-level c =
    let d = c.self.inside in
    let fits : c.args.level < length d.component.now = subst (λ (x : Choices). c.args.level < length x.component) (sym c.self.view_is) c.requires in
    let one = c.self.invariant.lists.one_each in
    let all = ap length c.as_slice.ensures in
    let within : c.args.level < length c.as_slice.result.now = omega (arith, fits, one, all) in
    omega arith

pub bounds-as_slice-level-2 : goal.bounds-as_slice-level-2
bounds-as_slice-level-2 c =
    let d = c.self.inside in
    let fits : c.args.level < length d.component.now = subst (λ (x : Choices). c.args.level < length x.component) (sym c.self.view_is) c.requires in
    let one = c.self.invariant.prices.one_each in
    let all = ap length c.as_slice-2.ensures in
    omega (arith, fits, one, all)

pub offset_bounds-as_slice-level-2 : goal.offset_bounds-as_slice-level-2
offset_bounds-as_slice-level-2 c =
    let d = c.self.inside in
    let fits : c.args.level < length d.component.now = subst (λ (x : Choices). c.args.level < length x.component) (sym c.self.view_is) c.requires in
    let one = c.self.invariant.prices.one_each in
    let all = ap length c.as_slice-2.ensures in
    let within : c.args.level < length c.as_slice-2.result.now = omega (arith, fits, one, all) in
    omega arith

pub returns-clause-parts : goal.returns-clause-parts
returns-clause-parts c =
    let d = c.self.inside in
    let level = c.args.level in
    let fits = subst (λ (x : Choices). level < length x.component) (sym c.self.view_is) c.requires in
    let at = c.index-as_slice-level.is ∙ ap (λ (xs : List (List Point)). get_or xs level c.index-as_slice-level.result) c.as_slice.ensures in
    subst (λ (x : Choices). ArePartsAt x level c.as_slice-parts.result.now) c.self.view_is
    (parts_at (view_system d.flat.now) d.reach.size d.component.now d.plan.lists level c.index-as_slice-level.result c.as_slice-parts.result.now c.self.invariant.lists fits at c.as_slice-parts.ensures)

pub returns-clause-prices : goal.returns-clause-prices
returns-clause-prices c =
    let d = c.self.inside in
    let s = view_system d.flat.now in
    let level = c.args.level in
    let n = slice_index_or d.component.now level 0 in
    let fits : level < length d.component.now = subst (λ (x : Choices). level < length x.component) (sym c.self.view_is) c.requires in
    let inside : level < length d.plan.lists = (let z = c.self.invariant.lists.one_each in omega (arith, fits, z)) in
    let inside2 : level < length d.plan.prices = (let z = c.self.invariant.prices.one_each in omega (arith, fits, z)) in
    let at = c.index-as_slice-level.is ∙ ap (λ (xs : List (List Point)). get_or xs level c.index-as_slice-level.result) c.as_slice.ensures in
    let at2 = c.index-as_slice-level-2.is ∙ ap (λ (xs : List (List Price)). get_or xs level c.index-as_slice-level-2.result) c.as_slice-2.ensures in
    let parts = c.as_slice-parts.ensures ∙ at ∙ same_default d.plan.lists level c.index-as_slice-level.result [] inside in
    let prices = c.as_slice-prices.ensures ∙ at2 ∙ same_default d.plan.prices level c.index-as_slice-level-2.result [] inside2 in
    subst (λ (x : Choices). ArePricesOf x level c.as_slice-parts.result.now c.as_slice-prices.result.now) c.self.view_is
    (subst (λ (ps : List Price). ArePricesAt s n c.as_slice-parts.result.now ps) (sym prices)
    (subst (λ (xs : List Point). ArePricesAt s n xs (slice_index_or d.plan.prices level [])) (sym parts) (c.self.invariant.prices.each level fits)))
