use Rattle.std.proofs.Common.{rules, ◌≡◌, ◌∙◌, ◌<◌, ◌≤◌, List, length, map, take, sym, ap, subst}
use Rattle.std.proofs.lemmas.List.Folds.{flat_map-map}
use Rattle.std.specs.List.{flat_map, AllByRecursion}
use Rattle.std.proofs.lemmas.List.Elements.{All-from_recursion}
use Rattle.av_flat.specs.Signatures.{signatures}
use Rattle.av_flat.specs.Sites.{Place, PlaceMade, place_of, places_in}
use Rattle.av_flat.specs.Trees.{view, view_system}
use Rattle.av_flat.specs.WellFormed.{Fits}
use Rattle.av_flat.proofs.Reading.{each_place}
use Rattle.av_depend.specs.Sites.{Site}
use Rattle.av_depend.specs.inner.Adding.{HasAdded, sites_at}
use Rattle.av_depend.proofs.Adds.{added_nothing, added_both, flat_take_more, at_mapped, sites_gathered}
use Rattle.av_depend.proofs.site.add_tree.Goals as goal
use Rattle.av_base.proofs.Lists.{take_whole}

pub loop-place-init : goal.loop-place-init
loop-place-init c = added_nothing (view_system c.args.nodes.now) c.args.edges.now

pub add_place-requires-clause-fits : goal.add_place-requires-clause-fits
add_place-requires-clause-fits c =
    let vs = signatures (view_system c.args.nodes.now) in
    let dim = c.args.reading.now.set.dim in
    let P = λ (p : Place). Fits vs dim p.tree in
    let items = c.as_slice-place-items.result.now in
    let l : c.loop-place.place-index < length items = search rules in
    let are : map place_of items ≡ places_in 0 0 (view c.args.tree.now) = ap (λ (ps : List PlaceMade). map place_of ps) c.as_slice-place-items.ensures ∙ c.in_ok-places.ensures in
    let each = subst (AllByRecursion P) (sym are) (each_place (Fits vs dim) (λ g l r h. h) (λ l o r x y h. h) 0 0 (view c.args.tree.now) c.requires.fits) in
    at_mapped P place_of items c.loop-place.place-index c.place-item.result (All-from_recursion P (map place_of items) each) l c.place-item.is

pub loop-place-preserved : goal.loop-place-preserved
loop-place-preserved c =
    let s = view_system c.args.nodes.now in
    let f = λ (p : PlaceMade). sites_at c.args.reading.now.node c.args.reading.now.set (view p.tree) in
    let items = c.as_slice-place-items.result.now in
    let x = c.place-item.result in
    let old = c.args.edges.now in
    let new = c.add_place.new.edges in
    let l : c.loop-place.place-index < length items = search rules in
    subst (λ (sites : List Site). HasAdded s sites old new) (sym (flat_take_more f items c.loop-place.place-index x l c.place-item.is))
    (added_both s (flat_map f (take c.loop-place.place-index items)) (f x) old c.loop-place.edges new c.loop-place.invariant c.in_ok-add_place.ensures)

pub returns : goal.returns
returns c =
    let s = view_system c.args.nodes.now in
    let set = c.args.reading.now.set in
    let f = λ (p : PlaceMade). sites_at c.args.reading.now.node set (view p.tree) in
    let g = λ (p : Place). sites_at c.args.reading.now.node set p.tree in
    let items = c.as_slice-place-items.result.now in
    let over : length items ≤ c.loop-place.place-index = search rules in
    let are : map place_of items ≡ places_in 0 0 (view c.args.tree.now) = ap (λ (ps : List PlaceMade). map place_of ps) c.as_slice-place-items.ensures ∙ c.in_ok-places.ensures in
    let whole = ap (flat_map f) (take_whole items c.loop-place.place-index over) ∙ sym (flat_map-map g place_of items) ∙ ap (flat_map g) are ∙ sites_gathered c.args.reading.now.node set 0 0 (view c.args.tree.now) in
    subst (λ (sites : List Site). HasAdded s sites c.args.edges.now c.loop-place.edges) whole c.loop-place.invariant
