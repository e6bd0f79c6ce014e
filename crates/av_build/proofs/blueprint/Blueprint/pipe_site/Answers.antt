use Rattle.std.proofs.Common.{◌∙◌, ◌-◌, ℕ, refl, sym, ap, ap₂, arith}
use Rattle.std.proofs.lemmas.Grind.{elements}
use Rattle.av_base.proofs.Lists.{some_is}
use Rattle.av_space.proofs.Elements.{in_range}
use Rattle.av_kinds.specs.declared.program.Inlet.TheVariants.{Pipe}
use Rattle.av_kinds.specs.declared.program.WordSource.TheVariants.{Line}
use Rattle.av_build.specs.declared.blueprint.CellPlan.{CellPlan}
use Rattle.av_build.proofs.HelperSearch.{helper_between}
use Rattle.av_build.proofs.Pairwise.{element_of}
use Rattle.av_build.proofs.blueprint.Blueprint.pipe_site.Goals as goal

pub overflow_sub-result : goal.overflow_sub-result
overflow_sub-result c =
    let b = c.args.self.now in
    let has = c.requires.helper in
    let p = c.args.spot.now.cell.0 in
    let plan = c.index-as_slice-spot.result in
    let low = in_range b.cells p has.plan has.is_plan in
    let is = element_of b.cells c.as_slice.result.now p plan plan c.as_slice.ensures low c.index-as_slice-spot.is in
    let first = ap (λ (x : CellPlan). x.lanes.first) (sym c.index-as_slice-spot.is ∙ some_is plan has.plan (sym is ∙ has.is_plan)) in
    let between = (helper_between b c.requires.blueprint p c.args.helper has).0 in
    let lane = c.helper_lane-lane.ensures in
    omega (arith, first, between, lane)

pub returns : goal.returns
returns c =
    let b = c.args.self.now in
    let has = c.requires.helper in
    let p = c.args.spot.now.cell.0 in
    let plan = c.index-as_slice-spot.result in
    let low = in_range b.cells p has.plan has.is_plan in
    let is = element_of b.cells c.as_slice.result.now p plan plan c.as_slice.ensures low c.index-as_slice-spot.is in
    record {
      inlet = λ other is_other. ap₂ (λ (q first : ℕ). Pipe (q - first)) c.helper_lane-lane.ensures (ap (λ (x : CellPlan). x.lanes.first) (sym c.index-as_slice-spot.is ∙ some_is plan other (sym is ∙ is_other)));
      width = refl;
      selections = c.new.ensures;
      otherwise = ap (λ (q : ℕ). Line q 0) c.helper_lane-lane.ensures;
    }

pub bounds-as_slice-spot-2 : goal.bounds-as_slice-spot-2
bounds-as_slice-spot-2 c = grind (arith, elements)

pub bounds-as_slice-spot : goal.bounds-as_slice-spot
bounds-as_slice-spot c = grind (arith, elements)

pub offset_bounds-as_slice-spot : goal.offset_bounds-as_slice-spot
offset_bounds-as_slice-spot c = grind (arith, elements)
