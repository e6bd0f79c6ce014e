-- The pieces of a cell and their places, as they are looked up in a blueprint.
use Rattle.std.proofs.Common.{◌≡◌, ℕ, ◌<◌, List, length, get_or, sym, ap, ◌∙◌, arith, Some}
use Rattle.std.specs.Prelude.{slice_get}
use Rattle.std.proofs.lemmas.List.{length-map}
use Rattle.av_base.proofs.Lists.{get_mapped, some_is}
use Rattle.av_space.specs.declared.spots.Site.{Site}
use Rattle.av_space.specs.declared.spots.Spot.{Spot as SpotMade}
use Rattle.av_build.specs.declared.blueprint.Blueprint.{Blueprint}
use Rattle.av_build.specs.declared.blueprint.CellPlan.{CellPlan}
use Rattle.av_build.specs.declared.spots.SpotPlan.{SpotPlan}
use Rattle.av_build.specs.inner.Blueprints.{spots_on, IsBlueprint}
use Rattle.av_build.specs.inner.Lanes.{HasPiece}
use Rattle.av_build.specs.inner.SpotPlans.{spot_by}
use Rattle.av_build.proofs.Pairwise.{element_of}

module _ (b : Blueprint) (is : IsBlueprint b) (p : ℕ) (low : p < length b.cells) (cells : List CellPlan) (plan : CellPlan) (cells_are : cells ≡ b.cells) (plan_is : plan ≡ get_or cells p plan) where
  pub plan_at : slice_get b.cells p ≡ Some plan
  plan_at = element_of b.cells cells p plan plan cells_are low plan_is

  pub spots_are : (spots : List SpotPlan) → spots ≡ (get_or cells p plan).pieces.spots → spots ≡ plan.pieces.spots
  spots_are spots same = same ∙ ap (λ (x : CellPlan). x.pieces.spots) (sym plan_is)

  pub sites_are : (sites : List (List Site)) → sites ≡ (get_or cells p plan).pieces.sites → sites ≡ plan.pieces.sites
  sites_are sites same = same ∙ ap (λ (x : CellPlan). x.pieces.sites) (sym plan_is)

  pub many_spots : length (spots_on b.array plan.pieces) ≡ length plan.pieces.spots
  many_spots = length-map plan.pieces.spots (spot_by b.array)

  pub many_sites : length plan.pieces.sites ≡ length plan.pieces.spots
  many_sites = (is.plans.pieces p plan plan_at).one_each ∙ many_spots

  pub has_within : (k : ℕ) → HasPiece b p k → k < length plan.pieces.spots
  has_within k has =
      let few = has.2 in
      let size = ap (λ (x : CellPlan). length x.pieces.spots) (some_is has.0 plan (sym has.1 ∙ plan_at)) in
      omega (arith, few, size)

  module _ (k : ℕ) (within : k < length plan.pieces.spots) where
    -- with its computations
    pub piece_at : (spots : List SpotPlan) (kept : SpotPlan) → spots ≡ (get_or cells p plan).pieces.spots → kept ≡ get_or spots k kept → (at : SpotMade) → at ≡ spot_by b.array kept → slice_get (spots_on b.array plan.pieces) k ≡ Some at
    piece_at spots kept same e at made =
        get_mapped (spot_by b.array) plan.pieces.spots k kept (element_of plan.pieces.spots spots k kept kept (spots_are spots same) within e) ∙ ap (λ (x : SpotMade). Some x) (sym made)

    pub places_at : (sites : List (List Site)) (own : List Site) → sites ≡ (get_or cells p plan).pieces.sites → own ≡ get_or sites k own → slice_get plan.pieces.sites k ≡ Some own
    places_at sites own same e =
        let size = many_sites in
        element_of plan.pieces.sites sites k own own (sites_are sites same) (omega (arith, within, size)) e
