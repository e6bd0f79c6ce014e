use Rattle.std.proofs.Common.{◌∙◌, Option, sym, ap}
use Rattle.av_build.specs.declared.blueprint.CellPlan.{CellPlan}
use Rattle.av_build.specs.inner.Blueprints.{value_in}
use Rattle.av_build.proofs.Pairwise.{element_of}
use Rattle.av_build.proofs.blueprint.Blueprint.value_lane.Goals as goal

pub returns : goal.returns
returns c =
    let plan = c.index-as_slice-cell.result in
    let is = element_of c.args.self.now.cells c.as_slice.result.now c.args.cell.0 plan plan c.as_slice.ensures c.requires c.index-as_slice-cell.is in
    ap (λ (x : CellPlan). x.lanes.value) (sym c.index-as_slice-cell.is) ∙ ap (λ (o : Option CellPlan). value_in o) (sym is)
