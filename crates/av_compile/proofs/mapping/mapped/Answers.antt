use Rattle.std.proofs.Common.{◌≡◌}
use Rattle.std.specs.Prelude.{Err}
use Rattle.av_compile.specs.Mapped.{IsUnmapped}
use Rattle.av_compile.proofs.FirstFaults.{told}
use Rattle.av_compile.proofs.OneUnmapped.{one_unmapped, not_mapped, answered_error}
use Rattle.av_compile.proofs.mapping.mapped.Goals as goal

pub returns-in_err-found-clause-refused : goal.returns-in_err-found-clause-refused
returns-in_err-found-clause-refused c = λ f is not_memory.
    let fault = c.in_err-found.field-0.0 in
    let e : f ≡ fault = told c.from_residual.result fault f c.from_residual.ensures.1 is in
    let was : c.mapped_with_layout.result ≡ Err f = cc in
    c.mapped_with_layout.ensures.refused f was not_memory

-- ---- each cause has its answer

pub returns-in_err-found-clause-cause : goal.returns-in_err-found-clause-cause
returns-in_err-found-clause-cause c =
    answered_error (IsUnmapped c.args.bytes.now c.args.sizes.now c.args.width.bits c.args.reach.size) (one_unmapped c.args.bytes.now c.args.sizes.now c.args.width.bits c.args.reach.size) c.from_residual.result c.in_err-found.field-0.0 c.from_residual.ensures.1 (returns-in_err-found-clause-refused c)

pub returns-clause-cause : goal.returns-clause-cause
returns-clause-cause c = λ f is some.
    let mapped = c.in_ok-found.ensures.found in
    absurd (not_mapped c.args.bytes.now c.args.sizes.now c.args.width.bits c.args.reach.size c.in_ok-found.found.timed f mapped.pipelined mapped.no_cause is some)
