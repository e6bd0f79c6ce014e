-- The place of a helper on a cell, as it is looked up in a blueprint.
use Rattle.std.proofs.Common.{◌≡◌, ℕ, ◌<◌, List, length, get_or, sym, ap, ◌∙◌, Some}
use Rattle.std.specs.Prelude.{slice_get}
use Rattle.av_base.proofs.Lists.{some_is}
use Rattle.av_space.specs.declared.spots.Site.{Site}
use Rattle.av_space.specs.declared.spots.Spot.{Spot as SpotMade}
use Rattle.av_space.specs.Taps.{Pipeline}
use Rattle.av_space.proofs.Elements.{in_range}
use Rattle.av_build.specs.declared.blueprint.Blueprint.{Blueprint}
use Rattle.av_build.specs.declared.blueprint.CellPlan.{CellPlan}
use Rattle.av_build.specs.declared.blueprint.HelperPlan.{HelperPlan}
use Rattle.av_build.specs.inner.Lanes.{IsHelperOn}
use Rattle.av_build.proofs.Pairwise.{element_of}

module _ (b : Blueprint) (at : SpotMade) (h : HelperPlan) (on : IsHelperOn b at h) where
  pub cell_low : at.cell.0 < length b.cells
  cell_low = in_range b.cells at.cell.0 on.spot_on.plan on.spot_on.is_plan

  module _ (cells : List CellPlan) (plan : CellPlan) (cells_are : cells ≡ b.cells) (plan_is : plan ≡ get_or cells at.cell.0 plan) where
    pub same_plan : plan ≡ on.spot_on.plan
    same_plan = some_is plan on.spot_on.plan (sym (element_of b.cells cells at.cell.0 plan plan cells_are cell_low plan_is) ∙ on.spot_on.is_plan)

    module _ (sites : List (List Site)) (sites_are : sites ≡ (get_or cells at.cell.0 plan).pieces.sites) where
      pub same_sites : sites ≡ on.spot_on.plan.pieces.sites
      same_sites = sites_are ∙ ap (λ (x : CellPlan). x.pieces.sites) (sym plan_is ∙ same_plan)

      pub own_there : slice_get on.spot_on.plan.pieces.sites h.piece ≡ Some on.sites
      own_there = ap (λ (k : ℕ). slice_get on.spot_on.plan.pieces.sites k) on.piece_is ∙ on.spot_on.are_sites

      module _ (own : List Site) (own_is : own ≡ get_or sites h.piece own) (places : List Site) (places_are : places ≡ own) where
        pub same_own : own ≡ on.sites
        same_own =
            let l = in_range on.spot_on.plan.pieces.sites h.piece on.sites own_there in
            some_is own on.sites (sym (element_of on.spot_on.plan.pieces.sites sites h.piece own own same_sites l own_is) ∙ own_there)

        module _ (mine : Site) (mine_is : mine ≡ get_or places h.site mine) where
          pub place_is : mine ≡ on.place
          place_is = some_is mine on.place (sym (element_of on.sites places h.site mine mine (places_are ∙ same_own) (in_range on.sites h.site on.place on.is_place) mine_is) ∙ on.is_place)

          pub is_place : slice_get on.sites h.site ≡ Some mine
          is_place = on.is_place ∙ ap (λ (x : Site). Some x) (sym place_is)

          pub number_is : (pipeline : Pipeline) → mine.pipeline ≡ Some pipeline → h.number ≡ pipeline.number
          number_is pipeline is = on.number ∙ ap (λ (x : Pipeline). x.number) (some_is on.pipeline pipeline (sym on.is_pipeline ∙ ap (λ (x : Site). x.pipeline) (sym place_is) ∙ is))

          -- with the place and the helper that were found
          abbrev pub found_on : (pipeline : Pipeline) → mine.pipeline ≡ Some pipeline → IsHelperOn b at h
          found_on pipeline is = record {
            sites = on.sites;
            spot_on = on.spot_on;
            piece_is = on.piece_is;
            place = mine;
            is_place = is_place;
            pipeline = pipeline;
            is_pipeline = is;
            number = number_is pipeline is;
          }
