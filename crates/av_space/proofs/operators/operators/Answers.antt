use Rattle.std.proofs.Common.{rules, ◌≡◌, ◌<◌, ◌≤◌, ℕ, List, length, map, ap, subst, ◌∙◌, arith}
use Rattle.av_flat.specs.declared.timed.Timed.{Timed}
use Rattle.av_flat.specs.Nodes.{nodes}
use Rattle.av_flat.specs.Trees.{view_system}
use Rattle.av_space.specs.declared.cells.Cell.{Cell}
use Rattle.av_space.specs.inner.Counting.{piece_sizes, IsCountOf}
use Rattle.av_space.proofs.OperatorCounts.{count_none, next_cell, all_cells}
use Rattle.av_space.proofs.operators.operators.Goals as goal

pub loop-cell-init : goal.loop-cell-init
loop-cell-init c = record {
  counted = count_none (view_system c.args.scheduled.now.timed.flat) c.args.scheduled.now.layout.placements c.args.scheduled.now.layout.cells (λ u. u.cell < 0) (λ u piece h is. omega (arith, h));
  most = omega arith;
}

pub loop-cell-preserved : goal.loop-cell-preserved
loop-cell-preserved c =
    let l = c.args.scheduled.now.layout in
    let so_far = c.loop-cell.invariant in
    let own = c.cell_operators-sum.ensures in record {
      counted = next_cell (view_system c.args.scheduled.now.timed.flat) l.placements l.cells c.loop-cell.cell c.loop-cell.sum c.cell_operators-sum.result so_far.counted own.count;
      most = (let a = so_far.most in let b = own.most in omega (arith, a, b));
    }

pub returns : goal.returns
returns c =
    let l = c.args.scheduled.now.layout in
    let over : length c.cells-cell-end.result.now ≤ c.loop-cell.cell = search rules in
    let few : c.loop-cell.cell ≤ length c.cells-cell-end.result.now = search rules in
    let same : c.loop-cell.cell ≡ length l.cells = (let e = ap (λ (xs : List Cell). length xs) c.cells-cell-end.ensures.is in omega (arith, e, over, few)) in
    all_cells (view_system c.args.scheduled.now.timed.flat) l.placements l.cells c.loop-cell.sum
    (subst (λ (n : ℕ). IsCountOf (view_system c.args.scheduled.now.timed.flat) l.placements l.cells (λ u. u.cell < n) c.loop-cell.sum) same c.loop-cell.invariant.counted)

pub cell_operators-sum-requires-clause-sizes : goal.cell_operators-sum-requires-clause-sizes
cell_operators-sum-requires-clause-sizes c = c.as_slice.ensures ∙ c.in_ok-sizes.ensures ∙ ap (λ (t : Timed). map piece_sizes (nodes (view_system t.flat))) c.timed.ensures.is
