use Rattle.std.proofs.Common.{◌≡◌, ◌∙◌, List, map, take, get_or, ap, subst, arith}
use Rattle.std.specs.Prelude.{Contains}
use Rattle.std.proofs.lemmas.List.{take_all}
use Rattle.std.proofs.lemmas.Option.{slice_get-get_or}
use Rattle.std.proofs.lemmas.Grind.{common_steps}
use Rattle.av_flat.specs.declared.timed.Helper.{Helper}
use Rattle.av_flat.specs.Trees.{view}
use Rattle.av_space.specs.declared.spots.Site.{Site}
use Rattle.av_flat.specs.Sites.{Place, places_in, PlaceMade, place_of}
use Rattle.av_space.specs.Spots.{pipeline_by}
use Rattle.av_space.proofs.array.Array.sites.Goals as goal
use Rattle.av_base.proofs.Among.{among_at}
use Rattle.av_base.proofs.Lists.{get_mapped}

pub returns : goal.returns
returns c =
    let at = c.args.spot.now in
    let sites = c.loop-place.sites in
    let items = c.as_slice-place-items.result.now in
    let all : take c.loop-place.place-index items ≡ items = take_all c.loop-place.place-index items c.loop-place-test.false in
    let places : map (λ (site : Site). place_of site.place) sites ≡ places_in at.number 0 (view at.piece.now.tree) =
    c.loop-place.invariant.places ∙ ap (λ (l : List PlaceMade). map place_of l) (all ∙ c.as_slice-place-items.ensures) ∙ c.in_ok-places.ensures in
    record {
      places = places;
      each = λ k d l. record {
        is_place = (let x = get_or sites k d in
            subst (λ (ps : List Place). Contains ps (place_of x.place)) places
            (among_at (map (λ (site : Site). place_of site.place) sites) k (place_of x.place) (get_mapped (λ (site : Site). place_of site.place) sites k x (slice_get-get_or sites k d l))));
        pipeline = subst (λ (hs : List Helper). (get_or sites k d).pipeline ≡ pipeline_by hs at.place.0 (place_of (get_or sites k d).place) (view (get_or sites k d).place.tree)) c.as_slice-helpers.ensures (c.loop-place.invariant.pipelines k d l);
      };
    }

pub loop-place-preserved : goal.loop-place-preserved
loop-place-preserved c = grind (arith, common_steps)
