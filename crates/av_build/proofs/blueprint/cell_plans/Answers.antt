use Rattle.std.proofs.Common.{List, [], sym, subst}
use Rattle.av_build.specs.declared.blueprint.CellPlan.{CellPlan}
use Rattle.av_build.specs.inner.Blueprints.{AreCellPlans}
use Rattle.av_build.proofs.BlueprintSteps.{no_cells, cell_step}
use Rattle.av_build.proofs.blueprint.cell_plans.Goals as goal

pub loop-cell-init : goal.loop-cell-init
loop-cell-init c =
    subst (λ (cells : List CellPlan). AreCellPlans c.args.array.now 0 cells c.args.lanes.now) (sym c.new-cells.ensures)
    (subst (AreCellPlans c.args.array.now 0 []) (sym c.requires.none) (no_cells c.args.array.now))

pub loop-cell-preserved : goal.loop-cell-preserved
loop-cell-preserved c =
    let put = c.in_ok-add_cell.ensures in
    cell_step c.args.array.now c.loop-cell.cell c.loop-cell.cells c.push.new.self c.in_ok-add_cell.field-0 c.loop-cell.lanes c.add_cell.new.lanes c.loop-cell.invariant put.pieces put.first put.value put.lanes c.in_ok-push.ensures.ok
