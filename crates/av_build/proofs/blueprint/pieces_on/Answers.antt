use Rattle.std.proofs.Common.{◌≡◌, ◌∙◌, List, length, map, sym, ap, subst, arith}
use Rattle.std.specs.Prelude.{slice_get}
use Rattle.std.proofs.lemmas.Grind.{common_steps}
use Rattle.av_space.specs.declared.spots.Site.{Site}
use Rattle.av_space.specs.declared.spots.Spot.{Spot}
use Rattle.av_space.specs.Spots.{AreSpots, AreSites}
use Rattle.av_build.specs.inner.SpotPlans.{plan_of, spot_by}
use Rattle.av_build.proofs.Pairwise.{next_pair, all_pairs}
use Rattle.av_build.proofs.SpotsAgain.{spots_again}
use Rattle.av_build.proofs.blueprint.pieces_on.Goals as goal

pub loop-spot-preserved : goal.loop-spot-preserved
loop-spot-preserved c =
    let next = next_pair (λ (spot : Spot) (own : List Site). AreSites c.args.array.now spot own) c.as_slice-spot-items.result.now c.loop-spot.sites c.push.new.self c.loop-spot.spot-index _ c.spot-item.result c.in_ok-sites.field-0
    c.loop-spot-test.true c.spot-item.is c.loop-spot.invariant.one_each c.loop-spot.invariant.each c.in_ok-sites.ensures c.in_ok-push.ensures.ok in
    record { one_each = next.0; each = next.1 }

pub returns : goal.returns
returns c =
    let all = all_pairs (λ (spot : Spot) (own : List Site). AreSites c.args.array.now spot own) c.in_ok-spots.spots c.as_slice-spot-items.result.now c.loop-spot.sites c.loop-spot.spot-index c.as_slice-spot-items.ensures
    c.loop-spot.invariant.one_each c.loop-spot.auto.spot-index-end c.loop-spot-test.false c.loop-spot.invariant.each in
    let w = c.args.array.now in
    let spots = c.in_ok-spots.spots in
    let again : map (spot_by w) c.in_ok-plans.plans ≡ spots =
    ap (map (spot_by w)) (c.in_ok-plans.ensures ∙ ap (map plan_of) c.as_slice.ensures) ∙ spots_again w c.requires.array c.args.cell.0 spots c.in_ok-spots.ensures.each in
    record {
      spots = subst (AreSpots w c.args.cell.0) (sym again) c.in_ok-spots.ensures;
      one_each = all.0 ∙ ap (λ (l : List Spot). length l) (sym again);
      sites = λ k spot own is_spot is_own. all.1 k spot own (ap (λ (l : List Spot). slice_get l k) (sym again) ∙ is_spot) is_own;
    }

pub loop-spot-init : goal.loop-spot-init
loop-spot-init c = grind (arith, common_steps)
