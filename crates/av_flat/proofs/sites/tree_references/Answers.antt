use Rattle.std.proofs.Common.{rules, ◌≡◌, ◌∙◌, ◌≤◌, List, length, map, sym, ap, arith}
use Rattle.std.specs.List.{flat_map}
use Rattle.std.proofs.lemmas.List.Folds.{flat_map-map}
use Rattle.std.proofs.lemmas.Grind.{common_steps}
use Rattle.av_flat.specs.Sites.{Place, PlaceMade, place_of, places_in}
use Rattle.av_flat.specs.Trees.{view}
use Rattle.av_flat.specs.inner.Walked.{reference_at}
use Rattle.av_flat.proofs.Reading.{references_gathered}
use Rattle.av_flat.proofs.sites.tree_references.Goals as goal
use Rattle.av_base.proofs.Lists.{take_whole}

pub returns : goal.returns
returns c =
    let f = λ (p : PlaceMade). reference_at (view p.tree) in
    let g = λ (p : Place). reference_at p.tree in
    let items = c.as_slice-place-items.result.now in
    let over : length items ≤ c.loop-place.place-index = search rules in
    let are : map place_of items ≡ places_in 0 0 (view c.args.tree.now) = ap (λ (ps : List PlaceMade). map place_of ps) c.as_slice-place-items.ensures ∙ c.in_ok-places.ensures in
    c.loop-place.invariant ∙ ap (flat_map f) (take_whole items c.loop-place.place-index over) ∙ sym (flat_map-map g place_of items) ∙ ap (flat_map g) are ∙ references_gathered 0 0 (view c.args.tree.now)

pub loop-place-preserved : goal.loop-place-preserved
loop-place-preserved c = grind (arith, common_steps)
