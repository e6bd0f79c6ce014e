-- The cells that have a lane for a helper: those with a computation of its piece, and with them the cells that hand its word on.
use Rattle.std.proofs.Common.{◌≡◌, ℕ, ◌+◌, List, map, refl, sym, ap, subst, ◌∙◌, arith, IsTrue, Some}
use Rattle.std.specs.Prelude.{slice_get}
use Rattle.av_base.proofs.Lists.{there_is, place_in}
use Rattle.av_tree.specs.Points.{Point}
use Rattle.av_flat.specs.declared.timed.Helper.{Helper}
use Rattle.av_flat.specs.Trees.{Tree, Piece, Variable, FlatSystem, view, view_piece, view_variable, reference}
use Rattle.av_flat.specs.Broadcasts.{Reference, references}
use Rattle.av_flat.specs.Helped.{before}
use Rattle.av_flat.specs.Nodes.{is_node, nodes, number_at, node_place}
use Rattle.av_flat.specs.Points.{has}
use Rattle.av_flat.specs.Signatures.{signatures}
use Rattle.av_space.specs.declared.array.Array.{Array as ArrayMade}
use Rattle.av_space.specs.declared.layout.Slot.{Slot}
use Rattle.av_space.specs.declared.spots.Site.{Site}
use Rattle.av_space.specs.declared.spots.Spot.{Spot as SpotMade}
use Rattle.av_flat.specs.Sites.{place_of, Place}
use Rattle.av_space.specs.Spots.{system_of, helpers_of, cells_of, ComputesIn, IsSpot, IsSlotIn, IsSiteOf, IsLinkedBy, handed_tap, pipeline_by}
use Rattle.av_space.specs.Taps.{Pipeline, helper_at, handed}
use Rattle.av_space.proofs.ByPlace.{from_map}
use Rattle.av_space.proofs.Elements.{at_index, in_range}
use Rattle.av_flat.proofs.NodeNumbers.{own_place}
use Rattle.av_flat.proofs.Cycles.{node_at}
use Rattle.av_space.proofs.SpotPlaces.{IsPlaceBy, place_read}
use Rattle.av_space.proofs.SpotReadings.{known}
use Rattle.av_history.specs.Performing.{IsHelper}
use Rattle.av_history.proofs.Serving.{IsMovedBy, moved_by, Reading, linked}
use Rattle.av_build.specs.declared.blueprint.Blueprint.{Blueprint}
use Rattle.av_build.specs.declared.blueprint.CellPlan.{CellPlan}
use Rattle.av_build.specs.declared.blueprint.HelperPlan.{HelperPlan}
use Rattle.av_build.specs.inner.Blueprints.{seen, spot_of, spots_on, helpers_on, ArePieces, IsBlueprint, HasHelper}
use Rattle.av_build.proofs.HelperPlaces.{IsReference, by_tree, told, spot_at}
use Rattle.av_build.proofs.HelpersOn.{helper_of_place}
use Rattle.av_build.proofs.PlaceSources.{as_linked}
use Rattle.av_build.proofs.SeenArray.{arranged_seen}
use Rattle.av_build.proofs.SpotNodes.{IsNodeOf, node_of, computed_node, computed_piece}

-- ---- a helper whose piece has a computation on the cell

module _ (b : Blueprint) (is : IsBlueprint b) (j : ℕ) (h : Helper) (v : Variable) (piece : Piece) (r : Reference) (it : IsHelper (seen b.array) j h v piece r)
    (p c : ℕ) (z : Point) (computes : ComputesIn b.array p c (number_at (system_of b.array) h.var) z) (inside : IsTrue (has piece.domain z)) where
  abbrev w : ArrayMade
  w = b.array

  node : slice_get (nodes (system_of w)) (number_at (system_of w) h.var) ≡ Some v
  node = node_at is_node (system_of w).variables h.var v it.is_variable it.is_node

  plan_there : (plan : CellPlan) × (slice_get b.cells p ≡ Some plan)
  plan_there =
      let low = in_range (cells_of w) p computes.cell computes.is_cell in
      let many = is.plans.one_each in
      there_is b.cells p (omega (arith, low, many))

  module _ (plan : CellPlan) (is_plan : slice_get b.cells p ≡ Some plan) where
    pieces : ArePieces w p plan.pieces
    pieces = is.plans.pieces p plan is_plan

    -- is one of the cell's
    pub on_cell : (x : ℕ) × (g : HelperPlan) × (slice_get (helpers_on plan.pieces) x ≡ Some g) × (g.number ≡ j)
    on_cell =
        let among = pieces.spots.all c (number_at (system_of w) h.var) z v h.piece piece computes node it.is_piece inside in
        let k = place_in (map (λ (at : SpotMade). at.number) (spots_on w plan.pieces)) h.piece among in
        let at = from_map (λ (at : SpotMade). at.number) (spots_on w plan.pieces) k.0 h.piece k.1 in
        let many = pieces.one_each in
        let low = in_range (spots_on w plan.pieces) k.0 at.0 at.1 in
        let own = there_is plan.pieces.sites k.0 (omega (arith, low, many)) in
        let sites = pieces.sites k.0 at.0 own.0 at.1 own.1 in
        let there = spot_at w is.array p plan.pieces pieces k.0 at.0 at.1 in
        let spot = there.2 in
        let here = computed_piece w p at.0 there.0 spot c (number_at (system_of w) h.var) z computes v node h.piece piece it.is_piece at.2 in
        let read : slice_get (references (view_piece at.0.piece.now).tree) h.site ≡ Some r = ap (λ (q : Piece). slice_get (references q.tree) h.site) here ∙ it.is_reference in
        let place = told at.0.number 0 (view_piece at.0.piece.now).tree h.site r read in
        let number : 0 + h.site ≡ h.site = omega arith in
        let mapped : slice_get (map (λ (s : Site). place_of s.place) own.0) place.0 ≡ Some (record { piece = at.0.number; site = 0 + h.site; tree = reference r.place r.map }) = ap (λ (l : List Place). slice_get l place.0) sites.places ∙ place.1 in
        let site = from_map (λ (s : Site). place_of s.place) own.0 place.0 (record { piece = at.0.number; site = 0 + h.site; tree = reference r.place r.map }) mapped in
        let placed = at_index (IsSiteOf w at.0) own.0 sites.each place.0 site.0 site.1 in
        let var_is : at.0.place.0 ≡ h.var = spot.place ∙ ap (node_place (system_of w)) (computed_node w p at.0 there.0 spot c (number_at (system_of w) h.var) z computes) ∙ own_place (system_of w) h.var v it.is_variable it.is_node in
        let pipeline : site.0.pipeline ≡ Some (record { number = j; direction = h.direction }) =
        placed.pipeline ∙ ap (λ (q : Place). pipeline_by (helpers_of w) at.0.place.0 q q.tree) site.2 ∙ ap (λ (i : ℕ). helper_at (helpers_of w) at.0.place.0 at.0.number i) number
        ∙ ap (λ (i : ℕ). helper_at (helpers_of w) i at.0.number h.site) var_is ∙ ap (λ (i : ℕ). helper_at (helpers_of w) h.var i h.site) at.2 ∙ it.is_first in
        let found = helper_of_place plan.pieces k.0 own.0 own.1 place.0 site.0 site.1 (record { number = j; direction = h.direction }) pipeline in
        (found.0, record { number = j; piece = k.0; site = place.0 }, found.1, refl)

  pub has_helper : HasHelper b p j
  has_helper =
      let plan = plan_there in
      let x = on_cell plan.0 plan.1 in
      record { plan = plan.0; is_plan = plan.1; index = x.0; helper = x.1; is_helper = x.2; number = x.3 }

-- ---- the cell from which a link hands the helper's word on

module _ (b : Blueprint) (is : IsBlueprint b) (at : SpotMade) (spot : IsSpot b.array at) (mine : Site) (placed : IsSiteOf b.array at mine) (h : Pipeline) (pipeline : mine.pipeline ≡ Some h)
    (t : Slot) (on : IsSlotIn b.array at.cell.0 at.node.0 at.piece.now.domain t) where
  abbrev s : FlatSystem
  s = system_of b.array

  abbrev p : Place
  p = place_of mine.place

  moved : IsReference p × (helper_at (helpers_of b.array) at.place.0 p.piece p.site ≡ Some h)
  moved = by_tree (helpers_of b.array) at.place.0 p p.tree h refl (sym placed.pipeline ∙ pipeline)

  piece_is : p.piece ≡ at.number
  piece_is = (place_read at.number (view at.piece.now.tree) p placed.is_place).piece_is

  node_is : IsNodeOf b.array at
  node_is = node_of b.array at spot

  reading : Reading (seen b.array) (spot_of at) t.cycle t.point
  reading = record { computes = on.computes; is_variable = spot.is_variable; is_piece = spot.is_piece; within = on.within }

  helper : IsMovedBy (seen b.array) (spot_of at) moved.0.place moved.0.map_is h
  helper =
      let whole : slice_get (references (view at.piece.now.tree)) p.site ≡ Some (record { place = moved.0.place; map = moved.0.map_is }) =
      subst (IsPlaceBy (signatures s) (references (view at.piece.now.tree)) p) moved.0.tree (known b.array is.array at spot mine placed) in
      let found = ap (λ (i : ℕ). helper_at (helpers_of b.array) at.place.0 i p.site) (sym piece_is) ∙ moved.1 in
      moved_by (seen b.array) (spot_of at) spot.is_piece at.place.0 node_is.variable node_is.node (sym node_is.number) p.site moved.0.place moved.0.map_is h found whole

  pub helper_of_producer : IsTrue (has at.piece.now.domain (before t.point h.direction)) → (q d : ℕ) → IsLinkedBy b.array at t.cycle (handed_tap p h) q d → HasHelper b q h.number
  helper_of_producer inside q d link =
      let w = b.array in
      let tree : Tree = reference moved.0.place moved.0.map_is in
      let way = handed h.number h.direction in
      let here_link : IsLinkedBy w at t.cycle (record { place = record { piece = at.number; site = p.site; tree = tree }; way = way }) q d =
      subst (λ (i : ℕ). IsLinkedBy w at t.cycle (record { place = record { piece = i; site = p.site; tree = tree }; way = way }) q d) piece_is
      (subst (λ (u : Tree). IsLinkedBy w at t.cycle (record { place = record { piece = p.piece; site = p.site; tree = u }; way = way }) q d) moved.0.tree link) in
      let l = as_linked w at t.cycle p.site tree way q d here_link in
      let y : Point = before t.point h.direction in
      let from = linked (seen w) (arranged_seen w is.array) (spot_of at) t.cycle t.point reading p.site tree way q d l at.node.0 y (refl, refl, inside) in
      let there = subst (λ (i : ℕ). ComputesIn w q from.cycle i y) helper.node from.computes in
      has_helper b is h.number helper.helper (view_variable at.var.now) (view_piece at.piece.now) (record { place = moved.0.place; map = moved.0.map_is }) helper.is q from.cycle y there inside
