use Rattle.std.proofs.Common.{◌≡◌, ◌∙◌, refl, sym, ap, subst, Vec, Global, None}
use Rattle.std.proofs.lemmas.Option.{IfSome_then}
use Rattle.av_poly.proofs.Searching.{none_weaker}
use Rattle.av_tree.specs.Points.{Point}
use Rattle.av_flat.specs.Trees.{view_system}
use Rattle.av_sched.specs.declared.price.Price.{Price}
use Rattle.av_sched.specs.inner.FirstChoices.{HasNone}
use Rattle.av_sched.specs.inner.Walks.{Choices, Walk, choices_in, walk_at, system_of, IsInSystem, IsChoice, HasCovered}
use Rattle.av_sched.proofs.Pricing.{spent_none}
use Rattle.av_sched.proofs.Covering.{best_of_cover, none_of_cover}
use Rattle.av_sched.proofs.choose.choose_one.Goals as goal

pub new-walk-requires-clause-linear : goal.new-walk-requires-clause-linear
new-walk-requires-clause-linear c = subst (λ (d : Choices). IsChoice d c.args.linear.items) (sym c.in_ok-choices.ensures.choices) c.requires.linear

pub cover-requires-clause-spent : goal.cover-requires-clause-spent
cover-requires-clause-spent c =
    let free : Price = record { left = 0; size = 0 } in
    spent_none (system_of c.new-walk.result.choices) c.new-walk.result.linear free refl refl

pub returns-clause-some : goal.returns-clause-some
returns-clause-some c =
    let d = choices_in c.args.flat.now c.args.edges.now c.args.reach.size c.args.component.now in
    let start = walk_at d c.args.linear.items None in
    let end = c.cover.new.self in
    let is : c.new-walk.result ≡ start = c.new-walk.ensures ∙ ap (λ (e : Choices). walk_at e c.args.linear.items None) c.in_ok-choices.ensures.choices in
    let fits = subst IsInSystem c.in_ok-choices.ensures.choices c.in_ok-choices.ensures.fits in
    let covered = subst (λ (w : Walk). HasCovered w 0 end) is c.in_ok-cover.ensures in
    IfSome_then {X = Vec Point Global} c.into_best.result c.into_best.ensures.some
    (λ best found. best_of_cover start end best.items fits covered refl found c.into_best.ensures.like)

pub returns-clause-none : goal.returns-clause-none
returns-clause-none c =
    let d = choices_in c.args.flat.now c.args.edges.now c.args.reach.size c.args.component.now in
    let start = walk_at d c.args.linear.items None in
    let end = c.cover.new.self in
    let is : c.new-walk.result ≡ start = c.new-walk.ensures ∙ ap (λ (e : Choices). walk_at e c.args.linear.items None) c.in_ok-choices.ensures.choices in
    let fits = subst IsInSystem c.in_ok-choices.ensures.choices c.in_ok-choices.ensures.fits in
    let covered = subst (λ (w : Walk). HasCovered w 0 end) is c.in_ok-cover.ensures in
    none_weaker (end.best ≡ None) (HasNone (view_system c.args.flat.now) c.args.reach.size c.args.component.now) (λ nothing. none_of_cover start end fits covered refl nothing) c.into_best.result c.into_best.ensures.none
