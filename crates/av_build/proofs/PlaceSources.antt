-- Sources of places from where these read.
use Rattle.std.proofs.Common.{◌≡◌, ℕ, refl, sym, ap, subst, ◌∙◌, Option, Some, None}
use Rattle.std.specs.Prelude.{slice_get}
use Rattle.av_tree.specs.Points.{Point}
use Rattle.av_affine.specs.declared.map.Map.{Map}
use Rattle.av_flat.specs.Trees.{Tree, reference, constant, binary, choice, restriction, cases, dependence, reduction, pick, view}
use Rattle.av_flat.specs.Broadcasts.{references}
use Rattle.av_flat.specs.Values.{picked}
use Rattle.av_space.specs.declared.array.Array.{Array as ArrayMade}
use Rattle.av_space.specs.declared.layout.Slot.{Slot}
use Rattle.av_space.specs.declared.origin.Origin.{Origin}
use Rattle.av_space.specs.declared.origin.Origin.TheVariants as origin
use Rattle.av_space.specs.declared.spots.Site.{Site}
use Rattle.av_space.specs.declared.spots.Spot.{Spot as SpotMade}
use Rattle.av_flat.specs.Sites.{place_of, Place}
use Rattle.av_flat.specs.Nodes.{node_place}
use Rattle.av_space.specs.Spots.{IsSpot, IsSiteOf, IsLinkedBy, IsReferenceOrigin, at_port, over_link, IsPickOrigin, IsOriginBy, own_way, handed_tap, pipeline_by, helpers_of, system_of}
use Rattle.av_space.specs.Taps.{Pipeline, helper_at, Way, each, handed}
use Rattle.av_space.proofs.SpotPlaces.{place_read}
use Rattle.av_kinds.specs.declared.program.WordSource.{WordSource}
use Rattle.av_kinds.specs.declared.program.WordSource.TheVariants.{Word, Input, Line}
use Rattle.av_history.specs.Performing.{Lanes, IsLinked, IsReferenceSource, by_port, by_link, IsHelpedSource, IsPickSource, IsPlaceSource}
use Rattle.av_build.specs.inner.Blueprints.{seen, spot_of}
use Rattle.av_build.specs.inner.Sources.{IsOwnSource, IsEntrySource, IsHandedSource}

-- a link of a tap of the spot
pub as_linked : (w : ArrayMade) (at : SpotMade) (c site : ℕ) (tree : Tree) (way : Way) (q d : ℕ) → IsLinkedBy w at c (record { place = record { piece = at.number; site = site; tree = tree }; way = way }) q d → IsLinked (seen w) (spot_of at) c site tree way q d
as_linked w at c site tree way q d l = record { tap = l.number; is_tap = l.is_tap; link = l.link; is_link = l.is_link; in_link = l.in_link; producer_is = l.producer_is; delay_is = l.delay_is }

-- the source that is made for where a place reads
abbrev pub IsMadeFor : Lanes → Origin → WordSource → Type 0
IsMadeFor lanes (origin.Port n) source = source ≡ Input n
IsMadeFor lanes (origin.Value q d) source = source ≡ Line (lanes.of_value q.0) d
IsMadeFor lanes (origin.Number n) source = source ≡ Word n.bits

module _ (w : ArrayMade) (lanes : Lanes) (at : SpotMade) (mine : Site) (placed : IsSiteOf w at mine) (t : Slot) where
  abbrev p : Place
  p = place_of mine.place

  piece_is : p.piece ≡ at.number
  piece_is = (place_read at.number (view at.piece.now.tree) p placed.is_place).piece_is

  of_reference : (place : ℕ) (m : Map) (way : Way) (o : Origin) (source : WordSource) → IsMadeFor lanes o source → IsReferenceOrigin w at t.cycle p.site place m way o → IsReferenceSource (seen w) lanes (spot_of at) t.cycle p.site place m way source
  of_reference place m way (origin.Port k) source e (at_port n read is_read is_in is_reference is_port) =
      subst (IsReferenceSource (seen w) lanes (spot_of at) t.cycle p.site place m way) (sym e) (by_port n read is_read is_in is_reference is_port)
  of_reference place m way (origin.Value a b) source e (over_link q d read is_read node l) =
      subst (IsReferenceSource (seen w) lanes (spot_of at) t.cycle p.site place m way) (sym e) (by_link q.0 d read is_read node (as_linked w at t.cycle p.site (reference place m) way q.0 d l))
  of_reference place m way (origin.Number k) source e h = elim h [ ]

  of_pick : (tree : Tree) (place n : ℕ) (o : Option Point) (found : Origin) (source : WordSource) → p.tree ≡ tree → IsMadeFor lanes found source → IsPickOrigin w at t.cycle p place n o found → IsPickSource (seen w) lanes (spot_of at) t.cycle p.site place tree n o source
  of_pick tree place n None found source f e h = subst (λ (k : Origin). IsMadeFor lanes k source) h e
  of_pick tree place n (Some y) found source f e (q, d, read, is_read, node, l, is) = (
    q.0,
    d,
    read,
    is_read,
    node,
    as_linked w at t.cycle p.site tree each q.0 d (subst (λ (x : Place). IsLinkedBy w at t.cycle (record { place = x; way = each }) q.0 d) same l),
    subst (λ (k : Origin). IsMadeFor lanes k source) is e,
  )
    where
      same : p ≡ record { piece = at.number; site = p.site; tree = tree }
      same = ap (λ (k : ℕ). record { piece = k; site = p.site; tree = p.tree }) piece_is ∙ ap (λ (u : Tree). record { piece = at.number; site = p.site; tree = u }) f

  -- by itself
  pub own_source : (u : Tree) → p.tree ≡ u → (o : Origin) (source : WordSource) → IsMadeFor lanes o source → IsOriginBy w at t p mine.pipeline u o → IsOwnSource (seen w) lanes (spot_of at) t.point t.cycle p.site mine.pipeline u source
  own_source (reference place m) f o source e h = of_reference place m (own_way mine.pipeline) o source e h
  own_source (pick place choices n) f o source e h = of_pick (pick place choices n) place n (picked choices t.point) o source f e h
  own_source (constant n) f o source e h = absurd h
  own_source (binary g l r) f o source e h = absurd h
  own_source (choice l k r x y) f o source e h = absurd h
  own_source (restriction d u) f o source e h = absurd h
  own_source (cases ts) f o source e h = absurd h
  own_source (dependence m u) f o source e h = absurd h
  own_source (reduction o m u set) f k source e h = absurd h

  -- the word of its helper at the point before
  pub pipeline_link : (h : Pipeline) → mine.pipeline ≡ Some h → (u : Tree) → p.tree ≡ u → (q d : ℕ) (source : WordSource) → source ≡ Line (lanes.of_helper h.number q) d → IsLinkedBy w at t.cycle (handed_tap p h) q d
      → IsHandedSource (seen w) lanes (spot_of at) t.cycle p.site h u source
  pipeline_link h is (reference place m) f q d source e l =
      (q, d, as_linked w at t.cycle p.site (reference place m) (handed h.number h.direction) q d (subst (λ (x : Place). IsLinkedBy w at t.cycle (handed_tap x h) q d) same l), e)
    where
      same : p ≡ record { piece = at.number; site = p.site; tree = reference place m }
      same = ap (λ (k : ℕ). record { piece = k; site = p.site; tree = p.tree }) piece_is ∙ ap (λ (u : Tree). record { piece = at.number; site = p.site; tree = u }) f
  pipeline_link h is (pick place choices n) f q d source e l = let g = sym is ∙ placed.pipeline ∙ ap (pipeline_by (helpers_of w) at.place.0 p) f in absurd cc
  pipeline_link h is (constant n) f q d source e l = let g = sym is ∙ placed.pipeline ∙ ap (pipeline_by (helpers_of w) at.place.0 p) f in absurd cc
  pipeline_link h is (binary g x r) f q d source e l = let g = sym is ∙ placed.pipeline ∙ ap (pipeline_by (helpers_of w) at.place.0 p) f in absurd cc
  pipeline_link h is (choice x k r y z) f q d source e l = let g = sym is ∙ placed.pipeline ∙ ap (pipeline_by (helpers_of w) at.place.0 p) f in absurd cc
  pipeline_link h is (restriction b u) f q d source e l = let g = sym is ∙ placed.pipeline ∙ ap (pipeline_by (helpers_of w) at.place.0 p) f in absurd cc
  pipeline_link h is (cases ts) f q d source e l = let g = sym is ∙ placed.pipeline ∙ ap (pipeline_by (helpers_of w) at.place.0 p) f in absurd cc
  pipeline_link h is (dependence m u) f q d source e l = let g = sym is ∙ placed.pipeline ∙ ap (pipeline_by (helpers_of w) at.place.0 p) f in absurd cc
  pipeline_link h is (reduction o m u set) f q d source e l = let g = sym is ∙ placed.pipeline ∙ ap (pipeline_by (helpers_of w) at.place.0 p) f in absurd cc

  -- at an entry point the reference itself
  pub pipeline_own : (h : Pipeline) → mine.pipeline ≡ Some h → (u : Tree) → p.tree ≡ u → (source : WordSource) → IsOwnSource (seen w) lanes (spot_of at) t.point t.cycle p.site mine.pipeline u source
      → IsEntrySource (seen w) lanes (spot_of at) t.cycle p.site h u source
  pipeline_own h is (reference place m) f source own = subst (λ (o : Option Pipeline). IsReferenceSource (seen w) lanes (spot_of at) t.cycle p.site place m (own_way o) source) is own
  pipeline_own h is (pick place choices n) f source own = let g = sym is ∙ placed.pipeline ∙ ap (pipeline_by (helpers_of w) at.place.0 p) f in absurd cc
  pipeline_own h is (constant n) f source own = let g = sym is ∙ placed.pipeline ∙ ap (pipeline_by (helpers_of w) at.place.0 p) f in absurd cc
  pipeline_own h is (binary g x r) f source own = let g = sym is ∙ placed.pipeline ∙ ap (pipeline_by (helpers_of w) at.place.0 p) f in absurd cc
  pipeline_own h is (choice x k r y z) f source own = let g = sym is ∙ placed.pipeline ∙ ap (pipeline_by (helpers_of w) at.place.0 p) f in absurd cc
  pipeline_own h is (restriction b u) f source own = let g = sym is ∙ placed.pipeline ∙ ap (pipeline_by (helpers_of w) at.place.0 p) f in absurd cc
  pipeline_own h is (cases ts) f source own = let g = sym is ∙ placed.pipeline ∙ ap (pipeline_by (helpers_of w) at.place.0 p) f in absurd cc
  pipeline_own h is (dependence m u) f source own = let g = sym is ∙ placed.pipeline ∙ ap (pipeline_by (helpers_of w) at.place.0 p) f in absurd cc
  pipeline_own h is (reduction o m u set) f source own = let g = sym is ∙ placed.pipeline ∙ ap (pipeline_by (helpers_of w) at.place.0 p) f in absurd cc

  -- ---- the word of the place

  module _ (spot : IsSpot w at) where
    helper_is : (place : ℕ) (m : Map) → p.tree ≡ reference place m → mine.pipeline ≡ helper_at (helpers_of w) (node_place (system_of w) at.node.0) at.number p.site
    helper_is place m f =
        placed.pipeline ∙ ap (pipeline_by (helpers_of w) at.place.0 p) f ∙ ap (λ (n : ℕ). helper_at (helpers_of w) n p.piece p.site) spot.place ∙ ap (λ (k : ℕ). helper_at (helpers_of w) (node_place (system_of w) at.node.0) k p.site) piece_is

    -- without a helper
    pub plain_source : mine.pipeline ≡ None → (u : Tree) → p.tree ≡ u → (source : WordSource) → IsOwnSource (seen w) lanes (spot_of at) t.point t.cycle p.site mine.pipeline u source
        → IsPlaceSource (seen w) lanes (spot_of at) t.point t.cycle p.site u source
    plain_source none (reference place m) f source own =
        subst (λ (o : Option Pipeline). IsHelpedSource (seen w) lanes (spot_of at) o t.cycle p.site place m source) (sym none ∙ helper_is place m f)
        (subst (λ (o : Option Pipeline). IsReferenceSource (seen w) lanes (spot_of at) t.cycle p.site place m (own_way o) source) none own)
    plain_source none (pick place choices n) f source own = own
    plain_source none (constant n) f source own = absurd own
    plain_source none (binary g x r) f source own = absurd own
    plain_source none (choice x k r y z) f source own = absurd own
    plain_source none (restriction b u) f source own = absurd own
    plain_source none (cases ts) f source own = absurd own
    plain_source none (dependence m u) f source own = absurd own
    plain_source none (reduction o m u set) f source own = absurd own

    -- with the helper h, of the helper's lane on the cell
    pub piped_source : (h : Pipeline) → mine.pipeline ≡ Some h → (u : Tree) → p.tree ≡ u → ((place : ℕ) (m : Map) → u ≡ reference place m → slice_get (references (view at.piece.now.tree)) p.site ≡ Some (record { place = place; map = m }))
        → (source : WordSource) → source ≡ Line (lanes.of_helper h.number at.cell.0) 0 → IsPlaceSource (seen w) lanes (spot_of at) t.point t.cycle p.site u source
    piped_source h is (reference place m) f among source e =
        subst (λ (o : Option Pipeline). IsHelpedSource (seen w) lanes (spot_of at) o t.cycle p.site place m source) (sym is ∙ helper_is place m f) (among place m refl, e)
    piped_source h is (pick place choices n) f among source e = let g = sym is ∙ placed.pipeline ∙ ap (pipeline_by (helpers_of w) at.place.0 p) f in absurd cc
    piped_source h is (constant n) f among source e = let g = sym is ∙ placed.pipeline ∙ ap (pipeline_by (helpers_of w) at.place.0 p) f in absurd cc
    piped_source h is (binary g x r) f among source e = let g = sym is ∙ placed.pipeline ∙ ap (pipeline_by (helpers_of w) at.place.0 p) f in absurd cc
    piped_source h is (choice x k r y z) f among source e = let g = sym is ∙ placed.pipeline ∙ ap (pipeline_by (helpers_of w) at.place.0 p) f in absurd cc
    piped_source h is (restriction b u) f among source e = let g = sym is ∙ placed.pipeline ∙ ap (pipeline_by (helpers_of w) at.place.0 p) f in absurd cc
    piped_source h is (cases ts) f among source e = let g = sym is ∙ placed.pipeline ∙ ap (pipeline_by (helpers_of w) at.place.0 p) f in absurd cc
    piped_source h is (dependence m u) f among source e = let g = sym is ∙ placed.pipeline ∙ ap (pipeline_by (helpers_of w) at.place.0 p) f in absurd cc
    piped_source h is (reduction o m u set) f among source e = let g = sym is ∙ placed.pipeline ∙ ap (pipeline_by (helpers_of w) at.place.0 p) f in absurd cc
