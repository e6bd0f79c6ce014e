use Rattle.std.proofs.Common.{◌≡◌}
use Rattle.std.specs.Prelude.{Err}
use Rattle.av_flat.specs.Trees.{view_system}
use Rattle.av_compile.specs.Refusals.{of_serial}
use Rattle.av_compile.proofs.FirstFaults.{told}
use Rattle.av_commands.specs.Bests.{in_text, in_reductions}
use Rattle.av_commands.proofs.LeastSchedules.{normalises}
use Rattle.av_commands.proofs.bests.chained.Goals as goal

pub returns-in_err-normal-clause-refused : goal.returns-in_err-normal-clause-refused
returns-in_err-normal-clause-refused c = λ f is not_memory.
    let fault = c.in_err-normal.field-0.0 in
    let e : f ≡ fault = told c.from_residual.result fault f c.from_residual.ensures.1 is in
    let was : c.checked.result ≡ Err f = cc in
    in_text (c.checked.ensures.refused f was not_memory)

pub returns-in_err-serial_form-clause-refused : goal.returns-in_err-serial_form-clause-refused
returns-in_err-serial_form-clause-refused c = λ f is not_memory.
    let fault = c.in_err-serial_form.field-0.0 in
    let e : f ≡ of_serial fault = told c.from_residual-in_err-serial_form.result (of_serial fault) f c.from_residual-in_err-serial_form.ensures.1 is in
    in_reductions fault e (view_system c.in_ok-normal.normal) (normalises c.args.bytes.now c.args.sizes.now c.args.width.bits (view_system c.in_ok-normal.normal) c.in_ok-normal.ensures.found) c.in_err-serial_form.ensures.fault

pub returns-clause-found : goal.returns-clause-found
returns-clause-found c = record {
  normal = view_system c.in_ok-normal.normal;
  normalises = normalises c.args.bytes.now c.args.sizes.now c.args.width.bits (view_system c.in_ok-normal.normal) c.in_ok-normal.ensures.found;
  given = c.in_ok-serial_form.ensures.given;
}
