use Rattle.std.proofs.Common.{◌++◌, List, map, ap, ◌∙◌, false, true}
use Rattle.av_flat.specs.declared.flat.Piece.{Piece}
use Rattle.av_flat.specs.Trees.{view_piece, view_system, view_variable}
use Rattle.av_flat.specs.Sites.{places_from, PlaceMade, place_of}
use Rattle.av_space.specs.inner.Sites.{TapMade, tap_of, taps_where}
use Rattle.av_space.proofs.TapSites.{all_found}
use Rattle.av_space.proofs.tapping.taps_of.Goals as goal

pub returns : goal.returns
returns c =
    let s = view_system c.args.timed.now.flat in
    let hs = c.args.timed.now.helpers in
    let own = c.args.own.0 in
    let picked = λ (ps : List PlaceMade). taps_where s hs own true (map place_of ps) in
    let others = λ (ps : List PlaceMade). taps_where s hs own false (map place_of ps) in
    all_found s hs own (view_variable c.args.var.now) c.in_ok-places.places (c.in_ok-places.ensures ∙ ap (λ (l : List Piece). places_from 0 (map view_piece l)) c.as_slice.ensures)
    (map tap_of c.add_taps_of.new.sites) (map tap_of c.add_taps_of-2.new.sites)
    (c.in_ok-add_taps_of.ensures ∙ ap (λ (l : List TapMade). map tap_of l ++ others c.as_slice-2.result.now) c.new-sites.ensures ∙ ap others c.as_slice-2.ensures)
    (c.in_ok-add_taps_of-2.ensures ∙ ap (λ (ps : List PlaceMade). map tap_of c.add_taps_of.new.sites ++ picked ps) c.as_slice-3.ensures)
