use Rattle.std.proofs.Common.{rules, ℕ, ◌<◌, ◌∷◌, [], List, length, map, take, sym, subst}
use Rattle.av_poly.specs.Points.{Set}
use Rattle.av_flat.specs.Trees.{view_system}
use Rattle.av_depend.specs.Sites.{Site, both}
use Rattle.av_depend.specs.inner.Adding.{HasAdded, site_at, site_of}
use Rattle.av_depend.proofs.Adds.{added_nothing, added_both, map_take_more}
use Rattle.av_depend.proofs.site.add_choices.Goals as goal

pub loop-choice-init : goal.loop-choice-init
loop-choice-init c = added_nothing (view_system c.args.nodes.now) c.args.edges.now

pub loop-choice-preserved : goal.loop-choice-preserved
loop-choice-preserved c =
    let s = view_system c.args.nodes.now in
    let x = c.choice-item.result in
    let n = c.args.reading.now.node in
    let p = c.args.place.0 in
    let set = c.args.reading.now.set in
    let l : c.loop-choice.choice-index < length c.args.choices.now = search rules in
    let one = subst (λ (k : ℕ). HasAdded s (site_at k p x.map (both set x.set) ∷ []) c.loop-choice.edges c.add_site.new.edges) c.in_ok-own.ensures.node
    (subst (λ (own : Set). HasAdded s (site_at c.in_ok-own.own.node p x.map own ∷ []) c.loop-choice.edges c.add_site.new.edges) c.in_ok-own.ensures.set c.in_ok-add_site.ensures) in
    subst (λ (places : List Site). HasAdded s places c.args.edges.now c.add_site.new.edges) (sym (map_take_more (site_of n p set) c.args.choices.now c.loop-choice.choice-index x l c.choice-item.is))
    (added_both s (map (site_of n p set) (take c.loop-choice.choice-index c.args.choices.now)) (site_of n p set x ∷ []) c.args.edges.now c.loop-choice.edges c.add_site.new.edges c.loop-choice.invariant one)
