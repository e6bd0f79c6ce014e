use Rattle.std.proofs.Common.{◌≡◌, ap}
use Rattle.av_flat.specs.Trees.{view_system}
use Rattle.av_compile.specs.Refusals.{of_normal, of_check, of_serial}
use Rattle.av_compile.specs.inner.Chaining.{in_pieces, in_points, in_reductions}
use Rattle.av_compile.proofs.FirstFaults.{told, memory_only}
use Rattle.av_compile.proofs.OneChain.{chained_only}
use Rattle.av_compile.proofs.schedule.chained.Goals as goal

pub returns-clause-found : goal.returns-clause-found
returns-clause-found c = record {
  proper = c.in_ok-check_normal.ensures.proper;
  normal = view_system c.in_ok-normal.normal;
  given = c.in_ok-normal.ensures.gives;
  serial = c.in_ok-serial.ensures.given;
}

-- ---- the first fault

pub returns-in_err-normal-clause-refused : goal.returns-in_err-normal-clause-refused
returns-in_err-normal-clause-refused c = λ f is not_memory.
    let fault = c.in_err-normal.field-0.0 in
    let e : f ≡ of_normal fault = told c.from_residual.result (of_normal fault) f c.from_residual.ensures.1 is in
    in_pieces fault e c.in_err-normal.ensures.refuses

pub returns-in_err-check_normal-clause-refused : goal.returns-in_err-check_normal-clause-refused
returns-in_err-check_normal-clause-refused c = λ f is not_memory.
    let fault = c.in_err-check_normal.field-0.0 in
    let e : f ≡ of_check fault = told c.from_residual-in_err-check_normal.result (of_check fault) f c.from_residual-in_err-check_normal.ensures.1 is in
    in_points fault e c.in_ok-normal.ensures.gives.no_cause c.in_err-check_normal.ensures.fault

pub returns-in_err-serial-clause-refused : goal.returns-in_err-serial-clause-refused
returns-in_err-serial-clause-refused c = λ f is not_memory.
    let fault = c.in_err-serial.field-0.0 in
    let e : f ≡ of_serial fault = told c.from_residual-in_err-serial.result (of_serial fault) f c.from_residual-in_err-serial.ensures.1 is in
    in_reductions fault e c.in_ok-check_normal.ensures.proper (view_system c.in_ok-normal.normal) c.in_ok-normal.ensures.gives c.in_err-serial.ensures.fault

-- ---- none where there is none

pub returns-in_err-normal-clause-complete : goal.returns-in_err-normal-clause-complete
returns-in_err-normal-clause-complete c = λ s h.
    let fault = c.in_err-normal.field-0.0 in
    memory_only c.from_residual.result (of_normal fault) c.from_residual.ensures.1 (ap of_normal (h.given.no_cause fault c.in_err-normal.ensures.refuses))

pub returns-in_err-check_normal-clause-complete : goal.returns-in_err-check_normal-clause-complete
returns-in_err-check_normal-clause-complete c = λ s h.
    let fault = c.in_err-check_normal.field-0.0 in
    memory_only c.from_residual-in_err-check_normal.result (of_check fault) c.from_residual-in_err-check_normal.ensures.1 (ap of_check (c.in_err-check_normal.ensures.complete h.proper))

pub returns-in_err-serial-clause-complete : goal.returns-in_err-serial-clause-complete
returns-in_err-serial-clause-complete c = λ s h.
    let fault = c.in_err-serial.field-0.0 in
    memory_only c.from_residual-in_err-serial.result (of_serial fault) c.from_residual-in_err-serial.ensures.1
    (ap of_serial (chained_only (view_system c.args.flat.now) s (view_system c.in_ok-normal.normal) h c.in_ok-normal.ensures.gives fault c.in_err-serial.ensures.fault))
