use Rattle.std.proofs.Common.{◌+◌, ◌-◌, arith}
use Rattle.av_flat.specs.Trees.{Variable, view_variable}
use Rattle.av_stream.proofs.CellSpans.{node_within, time_within, time_of_node, of_cell, near, small, size, indices, small_entries, known, timely, not_past, not_first, later_none, earlier_none, in_order, span_is}
use Rattle.av_stream.proofs.spans.span.Goals as goal

pub variable_of-var-requires : goal.variable_of-var-requires
variable_of-var-requires c =
    node_within c.args.timed.now c.args.cell.now c.requires.used

pub bounds-as_slice-node : goal.bounds-as_slice-node
bounds-as_slice-node c =
    time_within c.args.timed.now c.args.cell.now c.as_slice.result.now c.requires.legal c.requires.used c.as_slice.ensures

pub offset_bounds-as_slice-node : goal.offset_bounds-as_slice-node
offset_bounds-as_slice-node c =
    let within = time_within c.args.timed.now c.args.cell.now c.as_slice.result.now c.requires.legal c.requires.used c.as_slice.ensures in
    let long = c.as_slice.type_inv.1 in
    omega (arith, within, long)

pub matrix_of-matrix-requires-clause-not_zero : goal.matrix_of-matrix-requires-clause-not_zero
matrix_of-matrix-requires-clause-not_zero c =
    (time_of_node c.args.timed.now c.args.cell.now c.as_slice.result.now c.index-as_slice-node.result c.requires.legal c.requires.used c.as_slice.ensures c.index-as_slice-node.is).not_zero

pub matrix_of-matrix-requires-clause-small : goal.matrix_of-matrix-requires-clause-small
matrix_of-matrix-requires-clause-small c =
    (time_of_node c.args.timed.now c.args.cell.now c.as_slice.result.now c.index-as_slice-node.result c.requires.legal c.requires.used c.as_slice.ensures c.index-as_slice-node.is).small

pub stands-requires-clause-near : goal.stands-requires-clause-near
stands-requires-clause-near c =
    let t = c.args.timed.now in
    let cell = c.args.cell.now in
    let v : Variable = view_variable c.variable_of-var.result.now in
    let time = c.index-as_slice-node.result in
    let matrix = c.matrix_of-matrix.result in
    let of = of_cell t c.args.cycles cell v c.as_slice.result.now time matrix c.requires.legal c.requires.used c.requires.cycles c.requires.few c.variable_of-var.ensures c.as_slice.ensures c.index-as_slice-node.is c.matrix_of-matrix.ensures in
    near t c.args.cycles cell v time matrix of

pub stands-requires-clause-small : goal.stands-requires-clause-small
stands-requires-clause-small c =
    let t = c.args.timed.now in
    let cell = c.args.cell.now in
    let v : Variable = view_variable c.variable_of-var.result.now in
    let time = c.index-as_slice-node.result in
    let matrix = c.matrix_of-matrix.result in
    let of = of_cell t c.args.cycles cell v c.as_slice.result.now time matrix c.requires.legal c.requires.used c.requires.cycles c.requires.few c.variable_of-var.ensures c.as_slice.ensures c.index-as_slice-node.is c.matrix_of-matrix.ensures in
    small t c.args.cycles cell v time matrix of

pub stands-requires-clause-size : goal.stands-requires-clause-size
stands-requires-clause-size c =
    let t = c.args.timed.now in
    let cell = c.args.cell.now in
    let v : Variable = view_variable c.variable_of-var.result.now in
    let time = c.index-as_slice-node.result in
    let matrix = c.matrix_of-matrix.result in
    let of = of_cell t c.args.cycles cell v c.as_slice.result.now time matrix c.requires.legal c.requires.used c.requires.cycles c.requires.few c.variable_of-var.ensures c.as_slice.ensures c.index-as_slice-node.is c.matrix_of-matrix.ensures in
    size t c.args.cycles cell v time matrix of

pub stands-requires-clause-indices : goal.stands-requires-clause-indices
stands-requires-clause-indices c =
    let t = c.args.timed.now in
    let cell = c.args.cell.now in
    let v : Variable = view_variable c.variable_of-var.result.now in
    let time = c.index-as_slice-node.result in
    let matrix = c.matrix_of-matrix.result in
    let of = of_cell t c.args.cycles cell v c.as_slice.result.now time matrix c.requires.legal c.requires.used c.requires.cycles c.requires.few c.variable_of-var.ensures c.as_slice.ensures c.index-as_slice-node.is c.matrix_of-matrix.ensures in
    indices t c.args.cycles cell v time matrix of

pub stands-requires-clause-points : goal.stands-requires-clause-points
stands-requires-clause-points c =
    let t = c.args.timed.now in
    let cell = c.args.cell.now in
    let v : Variable = view_variable c.variable_of-var.result.now in
    let time = c.index-as_slice-node.result in
    let matrix = c.matrix_of-matrix.result in
    let of = of_cell t c.args.cycles cell v c.as_slice.result.now time matrix c.requires.legal c.requires.used c.requires.cycles c.requires.few c.variable_of-var.ensures c.as_slice.ensures c.index-as_slice-node.is c.matrix_of-matrix.ensures in
    small_entries t c.args.cycles cell v time matrix of

pub stands-requires-in-from_end-clause-near : goal.stands-requires-in-from_end-clause-near
stands-requires-in-from_end-clause-near c =
    let t = c.args.timed.now in
    let cell = c.args.cell.now in
    let v : Variable = view_variable c.variable_of-var.result.now in
    let time = c.index-as_slice-node.result in
    let matrix = c.matrix_of-matrix.result in
    let of = of_cell t c.args.cycles cell v c.as_slice.result.now time matrix c.requires.legal c.requires.used c.requires.cycles c.requires.few c.variable_of-var.ensures c.as_slice.ensures c.index-as_slice-node.is c.matrix_of-matrix.ensures in
    near t c.args.cycles cell v time matrix of

pub stands-requires-in-from_end-clause-small : goal.stands-requires-in-from_end-clause-small
stands-requires-in-from_end-clause-small c =
    let t = c.args.timed.now in
    let cell = c.args.cell.now in
    let v : Variable = view_variable c.variable_of-var.result.now in
    let time = c.index-as_slice-node.result in
    let matrix = c.matrix_of-matrix.result in
    let of = of_cell t c.args.cycles cell v c.as_slice.result.now time matrix c.requires.legal c.requires.used c.requires.cycles c.requires.few c.variable_of-var.ensures c.as_slice.ensures c.index-as_slice-node.is c.matrix_of-matrix.ensures in
    small t c.args.cycles cell v time matrix of

pub stands-requires-in-from_end-clause-size : goal.stands-requires-in-from_end-clause-size
stands-requires-in-from_end-clause-size c =
    let t = c.args.timed.now in
    let cell = c.args.cell.now in
    let v : Variable = view_variable c.variable_of-var.result.now in
    let time = c.index-as_slice-node.result in
    let matrix = c.matrix_of-matrix.result in
    let of = of_cell t c.args.cycles cell v c.as_slice.result.now time matrix c.requires.legal c.requires.used c.requires.cycles c.requires.few c.variable_of-var.ensures c.as_slice.ensures c.index-as_slice-node.is c.matrix_of-matrix.ensures in
    size t c.args.cycles cell v time matrix of

pub stands-requires-in-from_end-clause-indices : goal.stands-requires-in-from_end-clause-indices
stands-requires-in-from_end-clause-indices c =
    let t = c.args.timed.now in
    let cell = c.args.cell.now in
    let v : Variable = view_variable c.variable_of-var.result.now in
    let time = c.index-as_slice-node.result in
    let matrix = c.matrix_of-matrix.result in
    let of = of_cell t c.args.cycles cell v c.as_slice.result.now time matrix c.requires.legal c.requires.used c.requires.cycles c.requires.few c.variable_of-var.ensures c.as_slice.ensures c.index-as_slice-node.is c.matrix_of-matrix.ensures in
    indices t c.args.cycles cell v time matrix of

pub stands-requires-in-from_end-clause-points : goal.stands-requires-in-from_end-clause-points
stands-requires-in-from_end-clause-points c =
    let t = c.args.timed.now in
    let cell = c.args.cell.now in
    let v : Variable = view_variable c.variable_of-var.result.now in
    let time = c.index-as_slice-node.result in
    let matrix = c.matrix_of-matrix.result in
    let of = of_cell t c.args.cycles cell v c.as_slice.result.now time matrix c.requires.legal c.requires.used c.requires.cycles c.requires.few c.variable_of-var.ensures c.as_slice.ensures c.index-as_slice-node.is c.matrix_of-matrix.ensures in
    small_entries t c.args.cycles cell v time matrix of

pub stands-requires-clause-timely : goal.stands-requires-clause-timely
stands-requires-clause-timely c =
    let t = c.args.timed.now in
    let cell = c.args.cell.now in
    let v : Variable = view_variable c.variable_of-var.result.now in
    let time = c.index-as_slice-node.result in
    let matrix = c.matrix_of-matrix.result in
    let of = of_cell t c.args.cycles cell v c.as_slice.result.now time matrix c.requires.legal c.requires.used c.requires.cycles c.requires.few c.variable_of-var.ensures c.as_slice.ensures c.index-as_slice-node.is c.matrix_of-matrix.ensures in
    let past = not_past t c.args.cycles cell v time matrix of c.from_start.first c.from_start.invariant in
    omega (arith, past, c.requires.few)

pub stands-requires-in-from_end-clause-timely : goal.stands-requires-in-from_end-clause-timely
stands-requires-in-from_end-clause-timely c = omega (arith, c.from_end.invariant.timely)

pub overflow_add-first : goal.overflow_add-first
overflow_add-first c =
    let t = c.args.timed.now in
    let cell = c.args.cell.now in
    let v : Variable = view_variable c.variable_of-var.result.now in
    let time = c.index-as_slice-node.result in
    let matrix = c.matrix_of-matrix.result in
    let of = of_cell t c.args.cycles cell v c.as_slice.result.now time matrix c.requires.legal c.requires.used c.requires.cycles c.requires.few c.variable_of-var.ensures c.as_slice.ensures c.index-as_slice-node.is c.matrix_of-matrix.ensures in
    let past = not_past t c.args.cycles cell v time matrix of c.from_start.first c.from_start.invariant in
    omega (arith, past, c.requires.few)

pub from_start-smaller : goal.from_start-smaller
from_start-smaller c =
    let t = c.args.timed.now in
    let cell = c.args.cell.now in
    let v : Variable = view_variable c.variable_of-var.result.now in
    let time = c.index-as_slice-node.result in
    let matrix = c.matrix_of-matrix.result in
    let of = of_cell t c.args.cycles cell v c.as_slice.result.now time matrix c.requires.legal c.requires.used c.requires.cycles c.requires.few c.variable_of-var.ensures c.as_slice.ensures c.index-as_slice-node.is c.matrix_of-matrix.ensures in
    let past = not_past t c.args.cycles cell v time matrix of c.from_start.first c.from_start.invariant in
    omega (arith, past)

pub from_start-preserved : goal.from_start-preserved
from_start-preserved c =
    let t = c.args.timed.now in
    let cell = c.args.cell.now in
    let v : Variable = view_variable c.variable_of-var.result.now in
    let time = c.index-as_slice-node.result in
    let matrix = c.matrix_of-matrix.result in
    let of = of_cell t c.args.cycles cell v c.as_slice.result.now time matrix c.requires.legal c.requires.used c.requires.cycles c.requires.few c.variable_of-var.ensures c.as_slice.ensures c.index-as_slice-node.is c.matrix_of-matrix.ensures in
    later_none t c.args.cycles cell v time matrix of c.from_start.first c.stands.result c.stands.ensures c.from_start-test.true c.from_start.invariant

pub overflow_sub-last : goal.overflow_sub-last
overflow_sub-last c =
    let t = c.args.timed.now in
    let cell = c.args.cell.now in
    let v : Variable = view_variable c.variable_of-var.result.now in
    let time = c.index-as_slice-node.result in
    let matrix = c.matrix_of-matrix.result in
    let of = of_cell t c.args.cycles cell v c.as_slice.result.now time matrix c.requires.legal c.requires.used c.requires.cycles c.requires.few c.variable_of-var.ensures c.as_slice.ensures c.index-as_slice-node.is c.matrix_of-matrix.ensures in
    let k = known t c.args.cycles cell v time matrix of in
    let late = timely t c.args.cycles cell v time matrix of k.0 k.1 in
    omega (arith, late)

pub from_end-init : goal.from_end-init
from_end-init c =
    let t = c.args.timed.now in
    let cell = c.args.cell.now in
    let v : Variable = view_variable c.variable_of-var.result.now in
    let time = c.index-as_slice-node.result in
    let matrix = c.matrix_of-matrix.result in
    let of = of_cell t c.args.cycles cell v c.as_slice.result.now time matrix c.requires.legal c.requires.used c.requires.cycles c.requires.few c.variable_of-var.ensures c.as_slice.ensures c.index-as_slice-node.is c.matrix_of-matrix.ensures in
    let k = known t c.args.cycles cell v time matrix of in
    let some = timely t c.args.cycles cell v time matrix of k.0 k.1 in
    record { none = λ n lt h. (let late = timely t c.args.cycles cell v time matrix of n h in omega (arith, late, lt)); timely = omega (arith, some, c.requires.few) }

pub overflow_sub-last-in-from_end : goal.overflow_sub-last-in-from_end
overflow_sub-last-in-from_end c =
    let t = c.args.timed.now in
    let cell = c.args.cell.now in
    let v : Variable = view_variable c.variable_of-var.result.now in
    let time = c.index-as_slice-node.result in
    let matrix = c.matrix_of-matrix.result in
    let of = of_cell t c.args.cycles cell v c.as_slice.result.now time matrix c.requires.legal c.requires.used c.requires.cycles c.requires.few c.variable_of-var.ensures c.as_slice.ensures c.index-as_slice-node.is c.matrix_of-matrix.ensures in
    not_first t c.args.cycles cell v time matrix of c.from_end.last c.stands-in-from_end.result c.stands-in-from_end.ensures c.from_end-test.true c.from_end.invariant.none

pub from_end-smaller : goal.from_end-smaller
from_end-smaller c =
    let t = c.args.timed.now in
    let cell = c.args.cell.now in
    let v : Variable = view_variable c.variable_of-var.result.now in
    let time = c.index-as_slice-node.result in
    let matrix = c.matrix_of-matrix.result in
    let of = of_cell t c.args.cycles cell v c.as_slice.result.now time matrix c.requires.legal c.requires.used c.requires.cycles c.requires.few c.variable_of-var.ensures c.as_slice.ensures c.index-as_slice-node.is c.matrix_of-matrix.ensures in
    let some = not_first t c.args.cycles cell v time matrix of c.from_end.last c.stands-in-from_end.result c.stands-in-from_end.ensures c.from_end-test.true c.from_end.invariant.none in
    omega (arith, some)

pub from_end-preserved : goal.from_end-preserved
from_end-preserved c =
    let t = c.args.timed.now in
    let cell = c.args.cell.now in
    let v : Variable = view_variable c.variable_of-var.result.now in
    let time = c.index-as_slice-node.result in
    let matrix = c.matrix_of-matrix.result in
    let of = of_cell t c.args.cycles cell v c.as_slice.result.now time matrix c.requires.legal c.requires.used c.requires.cycles c.requires.few c.variable_of-var.ensures c.as_slice.ensures c.index-as_slice-node.is c.matrix_of-matrix.ensures in
    record {
      none = earlier_none t c.args.cycles cell v time matrix of c.from_end.last c.stands-in-from_end.result c.stands-in-from_end.ensures c.from_end-test.true c.from_end.invariant.none;
      timely = omega (arith, c.from_end.invariant.timely);
    }

pub overflow_sub-result : goal.overflow_sub-result
overflow_sub-result c =
    let t = c.args.timed.now in
    let cell = c.args.cell.now in
    let v : Variable = view_variable c.variable_of-var.result.now in
    let time = c.index-as_slice-node.result in
    let matrix = c.matrix_of-matrix.result in
    let of = of_cell t c.args.cycles cell v c.as_slice.result.now time matrix c.requires.legal c.requires.used c.requires.cycles c.requires.few c.variable_of-var.ensures c.as_slice.ensures c.index-as_slice-node.is c.matrix_of-matrix.ensures in
    let ends = c.stands-in-from_end.ensures.0 c.from_end-test.false in
    in_order t c.args.cycles cell v time matrix of c.from_start.first c.from_end.last c.from_start.invariant ends

pub overflow_add-result : goal.overflow_add-result
overflow_add-result c =
    let t = c.args.timed.now in
    let cell = c.args.cell.now in
    let v : Variable = view_variable c.variable_of-var.result.now in
    let time = c.index-as_slice-node.result in
    let matrix = c.matrix_of-matrix.result in
    let of = of_cell t c.args.cycles cell v c.as_slice.result.now time matrix c.requires.legal c.requires.used c.requires.cycles c.requires.few c.variable_of-var.ensures c.as_slice.ensures c.index-as_slice-node.is c.matrix_of-matrix.ensures in
    let ends = c.stands-in-from_end.ensures.0 c.from_end-test.false in
    let late = timely t c.args.cycles cell v time matrix of c.from_end.last ends in
    omega (arith, late, c.requires.few)

pub returns : goal.returns
returns c =
    let t = c.args.timed.now in
    let cell = c.args.cell.now in
    let v : Variable = view_variable c.variable_of-var.result.now in
    let time = c.index-as_slice-node.result in
    let matrix = c.matrix_of-matrix.result in
    let of = of_cell t c.args.cycles cell v c.as_slice.result.now time matrix c.requires.legal c.requires.used c.requires.cycles c.requires.few c.variable_of-var.ensures c.as_slice.ensures c.index-as_slice-node.is c.matrix_of-matrix.ensures in
    let begins = c.stands.ensures.0 c.from_start-test.false in
    let ends = c.stands-in-from_end.ensures.0 c.from_end-test.false in
    let order = in_order t c.args.cycles cell v time matrix of c.from_start.first c.from_end.last c.from_start.invariant ends in
    span_is t c.args.cycles cell v time matrix of c.from_start.first c.from_end.last begins ends c.from_start.invariant c.from_end.invariant.none (c.from_end.last - c.from_start.first + 1) (omega (arith, order))
