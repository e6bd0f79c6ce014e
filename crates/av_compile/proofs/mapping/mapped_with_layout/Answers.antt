use Rattle.std.proofs.Common.{◌≡◌, ap}
use Rattle.std.specs.Prelude.{Err}
use Rattle.av_flat.specs.Trees.{view_system}
use Rattle.av_compile.specs.Refusals.{of_space}
use Rattle.av_compile.specs.Mapped.{in_schedule, in_array}
use Rattle.av_compile.proofs.FirstFaults.{told, memory_only}
use Rattle.av_compile.proofs.Pipelined.{pipelined, array_of}
use Rattle.av_compile.proofs.mapping.mapped_with_layout.Goals as goal

-- ---- the first fault

pub returns-in_err-found-clause-refused : goal.returns-in_err-found-clause-refused
returns-in_err-found-clause-refused c = λ f is not_memory.
    let fault = c.in_err-found.field-0.0 in
    let e : f ≡ fault = told c.from_residual.result fault f c.from_residual.ensures.1 is in
    let was : c.scheduled.result ≡ Err f = cc in
    in_schedule (c.scheduled.ensures.refused f was not_memory)

pub returns-in_err-layout-clause-refused : goal.returns-in_err-layout-clause-refused
returns-in_err-layout-clause-refused c = λ f is not_memory.
    let fault = c.in_err-layout.field-0.0 in
    let e : f ≡ of_space fault = told c.from_residual-in_err-layout.result (of_space fault) f c.from_residual-in_err-layout.ensures.1 is in
    in_array fault e c.in_ok-timed.timed
    (pipelined c.args.bytes.now c.args.sizes.now c.args.width.bits c.args.reach.size c.in_ok-found.found c.in_ok-timed.timed c.in_ok-found.ensures.found c.in_ok-timed.ensures)
    c.in_err-layout.ensures.refused

pub returns-in_err-cells-clause-refused : goal.returns-in_err-cells-clause-refused
returns-in_err-cells-clause-refused c = λ f is not_memory.
    let fault = c.in_err-cells.field-0.0 in
    let e : f ≡ of_space fault = told c.from_residual-in_err-cells.result (of_space fault) f c.from_residual-in_err-cells.ensures.1 is in
    in_array fault e c.in_ok-timed.timed
    (pipelined c.args.bytes.now c.args.sizes.now c.args.width.bits c.args.reach.size c.in_ok-found.found c.in_ok-timed.timed c.in_ok-found.ensures.found c.in_ok-timed.ensures)
    c.in_err-cells.ensures.refused

-- ---- none where there is none

pub returns-in_err-found-clause-complete : goal.returns-in_err-found-clause-complete
returns-in_err-found-clause-complete c = λ t h has.
    memory_only c.from_residual.result c.in_err-found.field-0.0 c.from_residual.ensures.1 (c.in_err-found.ensures.complete (view_system t.flat) h.serialises h.no_cause)

pub returns-in_err-layout-clause-complete : goal.returns-in_err-layout-clause-complete
returns-in_err-layout-clause-complete c = λ t h has.
    let fault = c.in_err-layout.field-0.0 in
    let own = pipelined c.args.bytes.now c.args.sizes.now c.args.width.bits c.args.reach.size c.in_ok-found.found c.in_ok-timed.timed c.in_ok-found.ensures.found c.in_ok-timed.ensures in
    memory_only c.from_residual-in_err-layout.result (of_space fault) c.from_residual-in_err-layout.ensures.1
    (ap of_space (array_of c.args.bytes.now c.args.sizes.now c.args.width.bits c.args.reach.size t c.in_ok-timed.timed h own has fault c.in_err-layout.ensures.refused))

pub returns-in_err-cells-clause-complete : goal.returns-in_err-cells-clause-complete
returns-in_err-cells-clause-complete c = λ t h has.
    let fault = c.in_err-cells.field-0.0 in
    let own = pipelined c.args.bytes.now c.args.sizes.now c.args.width.bits c.args.reach.size c.in_ok-found.found c.in_ok-timed.timed c.in_ok-found.ensures.found c.in_ok-timed.ensures in
    memory_only c.from_residual-in_err-cells.result (of_space fault) c.from_residual-in_err-cells.ensures.1
    (ap of_space (array_of c.args.bytes.now c.args.sizes.now c.args.width.bits c.args.reach.size t c.in_ok-timed.timed h own has fault c.in_err-cells.ensures.refused))

-- ---- what is found

pub returns-clause-found : goal.returns-clause-found
returns-clause-found c = record {
  pipelined = pipelined c.args.bytes.now c.args.sizes.now c.args.width.bits c.args.reach.size c.in_ok-found.found c.in_ok-timed.timed c.in_ok-found.ensures.found c.in_ok-timed.ensures;
  whole = c.in_ok-cells.ensures.whole;
  no_cause = c.in_ok-cells.ensures.complete;
}
