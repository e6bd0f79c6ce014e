-- The work of a piece on a cell, from the site of each of its places.
use Rattle.std.proofs.Common.{◌≡◌, ℕ, ◌+◌, List, length, refl, sym, ap, subst, ◌∙◌, arith, Some}
use Rattle.std.specs.Prelude.{slice_get}
use Rattle.std.proofs.lemmas.List.{length-map}
use Rattle.av_base.proofs.Among.{among_at}
use Rattle.av_base.proofs.Lists.{there_is}
use Rattle.av_flat.specs.Trees.{Tree, view, view_piece, view_variable}
use Rattle.av_space.specs.declared.array.Array.{Array as ArrayMade}
use Rattle.av_space.specs.declared.spots.Site.{Site}
use Rattle.av_space.specs.declared.spots.Spot.{Spot as SpotMade}
use Rattle.av_flat.specs.Sites.{place_of, Place, places_in}
use Rattle.av_flat.specs.Nodes.{node_place}
use Rattle.av_space.specs.Spots.{system_of, placings_of, cells_of, IsArray, IsSpot, AreSites}
use Rattle.av_flat.proofs.NodeNumbers.{node_variable}
use Rattle.av_space.proofs.ByPlace.{from_map}
use Rattle.av_space.proofs.Elements.{in_range}
use Rattle.av_space.proofs.Scheduling.{scheduled}
use Rattle.av_kinds.specs.declared.program.ProgramSite.{ProgramSite}
use Rattle.av_history.specs.Performing.{Lanes}
use Rattle.av_build.specs.inner.Blueprints.{seen, spot_of}
use Rattle.av_build.specs.inner.Programmed.{IsPlaceSite, IsWorkFor}
use Rattle.av_build.proofs.Pairwise.{ArePairs}
use Rattle.av_build.proofs.PlaceSites.{IsPlainTree, plain_tree, place_count, each_place}

pub plain_piece : (w : ArrayMade) → IsArray w → (at : SpotMade) → IsSpot w at → IsPlainTree (view at.piece.now.tree)
plain_piece w is at spot =
    let s = system_of w in
    let g = scheduled w.timed.now (placings_of w) (cells_of w) is.legal is.layout.are_placings is.layout.are_cells in
    let v = view_variable at.var.now in
    let among = among_at s.variables (node_place s at.node.0) v (node_variable s at.node.0 v spot.is_variable) in
    plain_tree (view at.piece.now.tree) (g.plain v at.number (view_piece at.piece.now) among spot.is_piece) (g.no_reduction v at.number (view_piece at.piece.now) among spot.is_piece)

module _ (w : ArrayMade) (count : ℕ → ℕ) (lanes : Lanes) (first : ℕ) (at : SpotMade) where
  -- the site of a place
  abbrev pub IsSiteAt : Site → ProgramSite → Type 0
  IsSiteAt place site = IsPlaceSite (seen w) count lanes first (spot_of at) place.place.site (view place.place.tree) site

  pub work_for : IsPlainTree (view at.piece.now.tree) → (places : List Site) → AreSites w at places → (sites : List ProgramSite) → length sites ≡ length places → ArePairs IsSiteAt places sites
      → IsWorkFor (seen w) count lanes first (spot_of at) (record { sites = sites; tree = view at.piece.now.tree })
  work_for plain places are sites many each = record {
    tree = refl;
    many = many ∙ sym (length-map places (λ (p : Site). place_of p.place)) ∙ ap (λ (ps : List Place). length ps) are.places ∙ sym (place_count at.number 0 (view at.piece.now.tree) plain);
    sites = each_place R at.number 0 0 (view at.piece.now.tree) plain here;
  }
    where
      R : ℕ → ℕ → Tree → Type 0
      R k i t = (site : ProgramSite) × (slice_get sites k ≡ Some site) × IsPlaceSite (seen w) count lanes first (spot_of at) i t site

      here : (i : ℕ) (p : Place) → slice_get (places_in at.number 0 (view at.piece.now.tree)) i ≡ Some p → R (0 + i) p.site p.tree
      here i p e =
          let x = from_map (λ (p : Site). place_of p.place) places i p (ap (λ (ps : List Place). slice_get ps i) are.places ∙ e) in
          let low = in_range places i x.0 x.1 in
          let site = there_is sites i (omega (arith, low, many)) in
          let a : i ≡ 0 + i = omega arith in
          subst (λ (n : ℕ). R n p.site p.tree) a (subst (λ (q : Place). R i q.site q.tree) x.2 (site.0, site.1, each i x.0 site.0 x.1 site.1))
