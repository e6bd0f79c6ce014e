-- What brings the word of a place to the value of its cell: its moments, or the lane of its helper.
use Rattle.std.proofs.Common.{◌≡◌, ◌⊎◌, ℕ, ◌<◌, inr, List, length, refl, sym, ap, ap₂, subst, ◌∙◌, Option, Some, None}
use Rattle.std.specs.Prelude.{slice_get}
use Rattle.std.specs.List.{AllByRecursion}
use Rattle.av_base.specs.declared.width.Width.{Width}
use Rattle.av_base.proofs.Lists.{there_is}
use Rattle.av_affine.specs.declared.map.Map.{Map}
use Rattle.av_tree.specs.Points.{Point}
use Rattle.av_flat.specs.Trees.{Tree, FlatSystem, view, view_variable, reference, constant, binary, choice, restriction, cases, dependence, reduction, pick}
use Rattle.av_flat.specs.Broadcasts.{references}
use Rattle.av_flat.specs.Signatures.{signatures}
use Rattle.av_space.specs.declared.array.Array.{Array as ArrayMade}
use Rattle.av_space.specs.declared.spots.Site.{Site}
use Rattle.av_space.specs.declared.spots.Spot.{Spot as SpotMade}
use Rattle.av_flat.specs.Sites.{place_of, Place}
use Rattle.av_flat.specs.Nodes.{node_place}
use Rattle.av_space.specs.Spots.{system_of, helpers_of, ComputesIn, IsSpot, IsSlotIn, IsSiteOf, pipeline_by}
use Rattle.av_space.specs.Taps.{Pipeline, helper_at}
use Rattle.av_space.proofs.Elements.{at_index}
use Rattle.av_space.proofs.SpotPlaces.{IsPlaceBy, place_read}
use Rattle.av_space.proofs.SpotReadings.{known}
use Rattle.av_kinds.specs.declared.counter.Counter.{Counter}
use Rattle.av_kinds.specs.declared.program.Inlet.{Inlet}
use Rattle.av_kinds.specs.declared.program.Selection.{Selection}
use Rattle.av_kinds.specs.declared.program.ProgramSite.{ProgramSite}
use Rattle.av_kinds.specs.declared.program.WordSource.{WordSource}
use Rattle.av_kinds.specs.declared.program.WordSource.TheVariants.{Word}
use Rattle.av_kinds.specs.Counters.{count_in}
use Rattle.av_kinds.specs.Programs.{source_by}
use Rattle.av_history.specs.Performing.{Lanes, IsPlaceSource}
use Rattle.av_history.specs.Widths.{read_width}
use Rattle.av_build.specs.declared.blueprint.Blueprint.{Blueprint}
use Rattle.av_build.specs.declared.blueprint.CellPlan.{CellPlan}
use Rattle.av_build.specs.declared.moments.Moment.{Moment}
use Rattle.av_build.specs.inner.Blueprints.{seen, spot_of, lanes_of, IsBlueprint}
use Rattle.av_build.specs.inner.Lanes.{IsPipeSite}
use Rattle.av_build.specs.inner.Moments.{site_by}
use Rattle.av_build.specs.inner.Orders.{IsInOrder, AreMoments}
use Rattle.av_build.specs.inner.Programmed.{Always, IsRight, IsSiteFor, inlet_by, pipe_in, IsPiped, IsPlaceSite}
use Rattle.av_build.proofs.HelperPlaces.{by_tree}
use Rattle.av_build.proofs.MomentLemmas.{site_for}
use Rattle.av_build.proofs.PlaceSources.{piped_source}
use Rattle.av_build.proofs.SiteLemmas.{site_inlet, site_width}
use Rattle.av_build.proofs.SpotNodes.{spot_slots}

-- ---- a place that is no reference with a helper

-- of a reference there is no helper
abbrev IsUnhelped : Option Pipeline → Tree → Type 0
IsUnhelped o u = (place : ℕ) (m : Map) → u ≡ reference place m → o ≡ None

inlet_same : (s : FlatSystem) (pipe : ℕ → ℕ) (o : Option Pipeline) (u : Tree) → IsUnhelped o u → inlet_by s (λ j. j) None u ≡ inlet_by s pipe o u
inlet_same s pipe None (reference place m) h = refl
inlet_same s pipe (Some g) (reference place m) h = absurd (let e = h place m refl in cc)
inlet_same s pipe None (constant n) h = refl
inlet_same s pipe (Some g) (constant n) h = refl
inlet_same s pipe None (binary g l r) h = refl
inlet_same s pipe (Some g) (binary f l r) h = refl
inlet_same s pipe None (choice l c r x y) h = refl
inlet_same s pipe (Some g) (choice l c r x y) h = refl
inlet_same s pipe None (restriction d t) h = refl
inlet_same s pipe (Some g) (restriction d t) h = refl
inlet_same s pipe None (cases ts) h = refl
inlet_same s pipe (Some g) (cases ts) h = refl
inlet_same s pipe None (dependence m t) h = refl
inlet_same s pipe (Some g) (dependence m t) h = refl
inlet_same s pipe None (reduction o m t set) h = refl
inlet_same s pipe (Some g) (reduction o m t set) h = refl
inlet_same s pipe None (pick place choices n) h = refl
inlet_same s pipe (Some g) (pick place choices n) h = refl

width_same : (s : FlatSystem) (own : ℕ) (o : Option Pipeline) (u : Tree) → IsUnhelped o u → read_width s own None u ≡ read_width s own o u
width_same s own None u h = refl
width_same s own (Some g) (reference place m) h = absurd (let e = h place m refl in cc)
width_same s own (Some g) (constant n) h = refl
width_same s own (Some g) (binary f l r) h = refl
width_same s own (Some g) (choice l c r x y) h = refl
width_same s own (Some g) (restriction d t) h = refl
width_same s own (Some g) (cases ts) h = refl
width_same s own (Some g) (dependence m t) h = refl
width_same s own (Some g) (reduction o m t set) h = refl
width_same s own (Some g) (pick place choices n) h = refl

not_piped : (lanes : Lanes) (p : ℕ) (o : Option Pipeline) (u : Tree) (site : ProgramSite) → IsUnhelped o u → IsPiped lanes p o u site
not_piped lanes p None (reference place m) site h = tt
not_piped lanes p (Some g) (reference place m) site h = absurd (let e = h place m refl in cc)
not_piped lanes p None (constant n) site h = tt
not_piped lanes p (Some g) (constant n) site h = tt
not_piped lanes p None (binary g l r) site h = tt
not_piped lanes p (Some g) (binary f l r) site h = tt
not_piped lanes p None (choice l c r x y) site h = tt
not_piped lanes p (Some g) (choice l c r x y) site h = tt
not_piped lanes p None (restriction d t) site h = tt
not_piped lanes p (Some g) (restriction d t) site h = tt
not_piped lanes p None (cases ts) site h = tt
not_piped lanes p (Some g) (cases ts) site h = tt
not_piped lanes p None (dependence m t) site h = tt
not_piped lanes p (Some g) (dependence m t) site h = tt
not_piped lanes p None (reduction o m t set) site h = tt
not_piped lanes p (Some g) (reduction o m t set) site h = tt
not_piped lanes p None (pick place choices n) site h = tt
not_piped lanes p (Some g) (pick place choices n) site h = tt

-- ---- a place of a piece on a cell

module _ (b : Blueprint) (is : IsBlueprint b) (counter : Counter) (at : SpotMade) (spot : IsSpot b.array at) (mine : Site) (placed : IsSiteOf b.array at mine)
    (plan : CellPlan) (is_plan : slice_get b.cells at.cell.0 ≡ Some plan) where
  abbrev w : ArrayMade
  w = b.array

  abbrev s : FlatSystem
  s = system_of w

  abbrev lanes : Lanes
  lanes = lanes_of b.cells

  abbrev p : Place
  p = place_of mine.place

  abbrev Right : Point → ℕ → WordSource → Type 0
  Right z c source = IsPlaceSource (seen w) lanes (spot_of at) z c p.site p.tree source

  abbrev here : Option Pipeline
  here = helper_at (helpers_of w) (node_place s at.node.0) at.number p.site

  here_is : here ≡ helper_at (helpers_of w) at.place.0 p.piece p.site
  here_is =
      let piece_is = (place_read at.number (view at.piece.now.tree) p placed.is_place).piece_is in
      ap (λ (n : ℕ). helper_at (helpers_of w) n at.number p.site) (sym spot.place) ∙ ap (λ (k : ℕ). helper_at (helpers_of w) at.place.0 k p.site) (sym piece_is)

  -- from the moments of a place without a helper
  pub plain_site : mine.pipeline ≡ None → (order : List ℕ) → IsInOrder (count_in counter) at.slots order → (moments : List Moment) → AreMoments (count_in counter) at.slots order Always Right moments
      → (inlet : Inlet) → inlet ≡ inlet_by s (λ j. j) None p.tree → (width : Width) → width.bits ≡ read_width s (view_variable at.var.now).width None p.tree
      → (site : ProgramSite) → site ≡ site_by inlet width moments → IsPlaceSite (seen w) (count_in counter) lanes plan.lanes.first (spot_of at) p.site p.tree site
  plain_site none order in_order moments are inlet inlet_is width width_is site site_is =
      let unhelped : IsUnhelped here p.tree = λ place m e. (here_is ∙ sym (ap (pipeline_by (helpers_of w) at.place.0 p) e) ∙ sym placed.pipeline ∙ none) in
      record {
        inlet = ap (λ (x : ProgramSite). x.inlet) site_is ∙ site_inlet inlet width moments ∙ inlet_is ∙ inlet_same s (pipe_in lanes at.cell.0 plan.lanes.first) here p.tree unhelped;
        width = ap (λ (x : ProgramSite). x.width.bits) site_is ∙ ap (λ (x : Width). x.bits) (site_width inlet width moments) ∙ width_is ∙ width_same s (view_variable at.var.now).width here p.tree unhelped;
        piped = not_piped lanes at.cell.0 here p.tree site unhelped;
        reads = subst (IsSiteFor (seen w) (count_in counter) (spot_of at) Always Right) (sym site_is) (site_for (seen w) (count_in counter) (spot_of at) at.slots (spot_slots w at spot) order in_order Always Right inlet width moments are);
      }

  -- from the lane of its helper on the cell
  pub piped_site : 0 < length at.slots → (h : Pipeline) → mine.pipeline ≡ Some h → (site : ProgramSite) → IsPipeSite b (spot_of at) h.number site → IsPlaceSite (seen w) (count_in counter) lanes plan.lanes.first (spot_of at) p.site p.tree site
  piped_site some h pipeline site pipe =
      let r = by_tree (helpers_of w) at.place.0 p p.tree h refl (sym placed.pipeline ∙ pipeline) in
      let read = r.0 in
      let helped : here ≡ Some h = here_is ∙ r.1 in
      let first = there_is at.slots 0 some in
      let on = at_index (IsSlotIn w at.cell.0 at.node.0 at.piece.now.domain) at.slots spot.are_slots.each 0 first.0 first.1 in
      record {
        inlet = pipe.inlet plan is_plan ∙ sym (ap₂ (λ (o : Option Pipeline) (u : Tree). inlet_by s (pipe_in lanes at.cell.0 plan.lanes.first) o u) helped read.tree);
        width = pipe.width ∙ sym (ap₂ (λ (o : Option Pipeline) (u : Tree). read_width s (view_variable at.var.now).width o u) helped read.tree);
        piped = subst (λ (o : Option Pipeline). IsPiped lanes at.cell.0 o p.tree site) (sym helped) (subst (λ (u : Tree). IsPiped lanes at.cell.0 (Some h) u site) (sym read.tree) (pipe.selections, pipe.otherwise));
        reads = record {
          each = (
            subst (AllByRecursion (λ (l : Selection). (l.source ≡ Word 0) ⊎ IsRight (seen w) (spot_of at) Always Right l.source)) (sym pipe.selections) tt,
            inr (first.0.cycle, first.0.point, on.computes, on.within, tt, source first.0.cycle first.0.point),
          );
          lasts = subst (AllByRecursion (λ (l : Selection). (c : ℕ) × (z : Point) × ComputesIn w at.cell.0 c at.node.0 z × (l.last ≡ count_in counter c))) (sym pipe.selections) tt;
          all = λ c z computes inside always. subst (λ (l : List Selection). Right z c (source_by (count_in counter c) site.otherwise l)) (sym pipe.selections) (source c z);
        };
      }
    where
      among : (place : ℕ) (m : Map) → p.tree ≡ reference place m → slice_get (references (view at.piece.now.tree)) p.site ≡ Some (record { place = place; map = m })
      among place m e = subst (IsPlaceBy (signatures s) (references (view at.piece.now.tree)) p) e (known w is.array at spot mine placed)

      source : (c : ℕ) (z : Point) → Right z c site.otherwise
      source c z = piped_source w lanes at mine placed (record { cycle = c; point = z }) spot h pipeline p.tree refl among site.otherwise pipe.otherwise
