use Rattle.std.proofs.Common.{arith}
use Rattle.std.proofs.lemmas.Result.{err_from_is_err_and}
use Rattle.std.proofs.lemmas.Grind.{common_steps}
use Rattle.av_flat.specs.Trees.{view}
use Rattle.av_normal.specs.inner.ReductionSets.{IsFoldable, IsFillable}
use Rattle.av_normal.proofs.ReductionSets.{two_narrow, two_first, two_second, four_narrow, four_first, four_second, four_third, four_fourth, body_same, body_narrow, body_after, body_refused}
use Rattle.av_normal.proofs.reduction_sets.+filled.Goals as goal

-- ---- two operands

pub filled-returns-in_err-left-in-Binary-clause-wide : goal.filled-returns-in_err-left-in-Binary-clause-wide
filled-returns-in_err-left-in-Binary-clause-wide t c =
    let p = err_from_is_err_and c.from_residual.result c.from_residual.ensures.1 in
    rw (p.1, p.2, c.in-Binary.is)
    (two_first c.args.holder.now.dim c.args.holder.now.rows c.in-Binary.sign (view c.in-Binary.left.value) (view c.in-Binary.right.value) c.in_err-left-in-Binary.field-0.0 (rw c.deref.ensures at c.in_err-left-in-Binary.ensures.wide))

pub filled-returns-in_err-right-in-Binary-clause-wide : goal.filled-returns-in_err-right-in-Binary-clause-wide
filled-returns-in_err-right-in-Binary-clause-wide t c =
    let p = err_from_is_err_and c.from_residual-in_err-right-in-Binary.result c.from_residual-in_err-right-in-Binary.ensures.1 in
    rw (p.1, p.2, c.in-Binary.is)
    (two_second c.args.holder.now.dim c.args.holder.now.rows c.in-Binary.sign (view c.in-Binary.left.value) (view c.in-Binary.right.value) c.in_err-right-in-Binary.field-0.0 (rw c.deref.ensures at c.in_ok-left-in-Binary.ensures.narrow) (rw c.deref-in-Binary.ensures at c.in_err-right-in-Binary.ensures.wide))

pub filled-returns-in_ok-right-in-Binary-clause-narrow : goal.filled-returns-in_ok-right-in-Binary-clause-narrow
filled-returns-in_ok-right-in-Binary-clause-narrow t c =
    rw c.in-Binary.is
    (two_narrow c.args.holder.now.dim c.args.holder.now.rows c.in-Binary.sign (view c.in-Binary.left.value) (view c.in-Binary.right.value) (rw c.deref.ensures at c.in_ok-left-in-Binary.ensures.narrow) (rw c.deref-in-Binary.ensures at c.in_ok-right-in-Binary.ensures.narrow))

-- ---- four operands

pub filled-returns-in_err-left-in-Choose-clause-wide : goal.filled-returns-in_err-left-in-Choose-clause-wide
filled-returns-in_err-left-in-Choose-clause-wide t c =
    let p = err_from_is_err_and c.from_residual-in_err-left-in-Choose.result c.from_residual-in_err-left-in-Choose.ensures.1 in
    rw (p.1, p.2, c.in-Choose.is)
    (four_first c.args.holder.now.dim c.args.holder.now.rows (view c.in-Choose.left.value) c.in-Choose.compare (view c.in-Choose.right.value) (view c.in-Choose.yes.value) (view c.in-Choose.no.value) c.in_err-left-in-Choose.field-0.0
    (rw c.deref-in-Choose.ensures at c.in_err-left-in-Choose.ensures.wide))

pub filled-returns-in_err-right-in-Choose-clause-wide : goal.filled-returns-in_err-right-in-Choose-clause-wide
filled-returns-in_err-right-in-Choose-clause-wide t c =
    let p = err_from_is_err_and c.from_residual-in_err-right-in-Choose.result c.from_residual-in_err-right-in-Choose.ensures.1 in
    rw (p.1, p.2, c.in-Choose.is)
    (four_second c.args.holder.now.dim c.args.holder.now.rows (view c.in-Choose.left.value) c.in-Choose.compare (view c.in-Choose.right.value) (view c.in-Choose.yes.value) (view c.in-Choose.no.value) c.in_err-right-in-Choose.field-0.0
    (rw c.deref-in-Choose.ensures at c.in_ok-left-in-Choose.ensures.narrow) (rw c.deref-in-Choose-2.ensures at c.in_err-right-in-Choose.ensures.wide))

pub filled-returns-in_err-yes-in-Choose-clause-wide : goal.filled-returns-in_err-yes-in-Choose-clause-wide
filled-returns-in_err-yes-in-Choose-clause-wide t c =
    let p = err_from_is_err_and c.from_residual-in_err-yes-in-Choose.result c.from_residual-in_err-yes-in-Choose.ensures.1 in
    rw (p.1, p.2, c.in-Choose.is)
    (four_third c.args.holder.now.dim c.args.holder.now.rows (view c.in-Choose.left.value) c.in-Choose.compare (view c.in-Choose.right.value) (view c.in-Choose.yes.value) (view c.in-Choose.no.value) c.in_err-yes-in-Choose.field-0.0
    (rw c.deref-in-Choose.ensures at c.in_ok-left-in-Choose.ensures.narrow) (rw c.deref-in-Choose-2.ensures at c.in_ok-right-in-Choose.ensures.narrow) (rw c.deref-in-Choose-3.ensures at c.in_err-yes-in-Choose.ensures.wide))

pub filled-returns-in_err-no-in-Choose-clause-wide : goal.filled-returns-in_err-no-in-Choose-clause-wide
filled-returns-in_err-no-in-Choose-clause-wide t c =
    let p = err_from_is_err_and c.from_residual-in_err-no-in-Choose.result c.from_residual-in_err-no-in-Choose.ensures.1 in
    rw (p.1, p.2, c.in-Choose.is)
    (four_fourth c.args.holder.now.dim c.args.holder.now.rows (view c.in-Choose.left.value) c.in-Choose.compare (view c.in-Choose.right.value) (view c.in-Choose.yes.value) (view c.in-Choose.no.value) c.in_err-no-in-Choose.field-0.0
    (rw c.deref-in-Choose.ensures at c.in_ok-left-in-Choose.ensures.narrow) (rw c.deref-in-Choose-2.ensures at c.in_ok-right-in-Choose.ensures.narrow)
    (rw c.deref-in-Choose-3.ensures at c.in_ok-yes-in-Choose.ensures.narrow) (rw c.deref-in-Choose-4.ensures at c.in_err-no-in-Choose.ensures.wide))

pub filled-returns-in_ok-no-in-Choose-clause-narrow : goal.filled-returns-in_ok-no-in-Choose-clause-narrow
filled-returns-in_ok-no-in-Choose-clause-narrow t c =
    rw c.in-Choose.is
    (four_narrow c.args.holder.now.dim c.args.holder.now.rows (view c.in-Choose.left.value) c.in-Choose.compare (view c.in-Choose.right.value) (view c.in-Choose.yes.value) (view c.in-Choose.no.value)
    (rw c.deref-in-Choose.ensures at c.in_ok-left-in-Choose.ensures.narrow) (rw c.deref-in-Choose-2.ensures at c.in_ok-right-in-Choose.ensures.narrow)
    (rw c.deref-in-Choose-3.ensures at c.in_ok-yes-in-Choose.ensures.narrow) (rw c.deref-in-Choose-4.ensures at c.in_ok-no-in-Choose.ensures.narrow))

-- ---- bodies

pub filled-returns-in_err-set-in-Reduce-clause-wide : goal.filled-returns-in_err-set-in-Reduce-clause-wide
filled-returns-in_err-set-in-Reduce-clause-wide t c =
    let h : IsFoldable c.args.holder.now.dim c.in-Reduce.map c.in-Reduce.set × IsFillable c.in-Reduce.map.from (view c.in-Reduce.body.value) = rw c.in-Reduce.is at c.requires.fillable in
    let p = err_from_is_err_and c.from_residual-in_err-set-in-Reduce.result c.from_residual-in_err-set-in-Reduce.ensures.1 in
    rw (p.1, p.2, c.in-Reduce.is) (body_refused c.args.holder.now.dim c.args.holder.now.rows c.in-Reduce.op c.in-Reduce.map (view c.in-Reduce.body.value) c.in-Reduce.set h.0 c.in_err-set-in-Reduce.field-0.0 c.in_err-set-in-Reduce.ensures.wide)

pub filled-returns-in_err-body-in-Reduce-clause-wide : goal.filled-returns-in_err-body-in-Reduce-clause-wide
filled-returns-in_err-body-in-Reduce-clause-wide t c =
    let h : IsFoldable c.args.holder.now.dim c.in-Reduce.map c.in-Reduce.set × IsFillable c.in-Reduce.map.from (view c.in-Reduce.body.value) = rw c.in-Reduce.is at c.requires.fillable in
    let p = err_from_is_err_and c.from_residual-in_err-body-in-Reduce.result c.from_residual-in_err-body-in-Reduce.ensures.1 in
    rw (p.1, p.2, c.in-Reduce.is)
    (body_after c.args.holder.now.dim c.args.holder.now.rows c.in-Reduce.op c.in-Reduce.map (view c.in-Reduce.body.value) c.in-Reduce.set c.in_ok-set-in-Reduce.set h.0 c.in_ok-set-in-Reduce.ensures.dim c.in_ok-set-in-Reduce.ensures.normalised c.in_err-body-in-Reduce.field-0.0 c.in_ok-set-in-Reduce.ensures.narrow
    (rw c.deref-in-Reduce.ensures at c.in_err-body-in-Reduce.ensures.wide))

pub filled-returns-in_ok-body-in-Reduce-clause-same : goal.filled-returns-in_ok-body-in-Reduce-clause-same
filled-returns-in_ok-body-in-Reduce-clause-same t c =
    let h : IsFoldable c.args.holder.now.dim c.in-Reduce.map c.in-Reduce.set × IsFillable c.in-Reduce.map.from (view c.in-Reduce.body.value) = rw c.in-Reduce.is at c.requires.fillable in
    rw (c.in-Reduce.is, c.reduction.ensures, c.copy_map.ensures)
    (body_same c.args.holder.now.dim c.args.holder.now.rows c.in-Reduce.op c.in-Reduce.map (view c.in-Reduce.body.value) c.in-Reduce.set c.in_ok-set-in-Reduce.set h.0 c.in_ok-set-in-Reduce.ensures.dim c.in_ok-set-in-Reduce.ensures.normalised (view c.in_ok-body-in-Reduce.body.value)
    (rw c.deref-in-Reduce.ensures at c.in_ok-body-in-Reduce.ensures.same))

pub filled-returns-in_ok-body-in-Reduce-clause-narrow : goal.filled-returns-in_ok-body-in-Reduce-clause-narrow
filled-returns-in_ok-body-in-Reduce-clause-narrow t c =
    let h : IsFoldable c.args.holder.now.dim c.in-Reduce.map c.in-Reduce.set × IsFillable c.in-Reduce.map.from (view c.in-Reduce.body.value) = rw c.in-Reduce.is at c.requires.fillable in
    rw c.in-Reduce.is
    (body_narrow c.args.holder.now.dim c.args.holder.now.rows c.in-Reduce.op c.in-Reduce.map (view c.in-Reduce.body.value) c.in-Reduce.set c.in_ok-set-in-Reduce.set h.0 c.in_ok-set-in-Reduce.ensures.dim c.in_ok-set-in-Reduce.ensures.normalised c.in_ok-set-in-Reduce.ensures.narrow
    (rw c.deref-in-Reduce.ensures at c.in_ok-body-in-Reduce.ensures.narrow))

pub filled-returns-in_ok-no-in-Choose-clause-same : goal.filled-returns-in_ok-no-in-Choose-clause-same
filled-returns-in_ok-no-in-Choose-clause-same t c = grind (arith, common_steps)

pub filled-inner_set-requires-clause-foldable : goal.filled-inner_set-requires-clause-foldable
filled-inner_set-requires-clause-foldable t c = grind (arith, common_steps)
