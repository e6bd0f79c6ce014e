use Rattle.std.proofs.Common.{◌≡◌, refl, sym, subst}
use Rattle.std.specs.Prelude.{Err}
use Rattle.av_net.specs.declared.plan.Plan.{Plan}
use Rattle.av_compile.specs.declared.refusal.Refusal.TheVariants as refusal
use Rattle.av_compile.proofs.FirstFaults.{told, memory_only}
use Rattle.av_compile.specs.Mapped.{IsUnmapped}
use Rattle.av_compile.specs.Planned.{IsPlanned}
use Rattle.av_compile.proofs.OneUnmapped.{one_unmapped, not_mapped, answered_error, answered_memory}
use Rattle.av_compile.proofs.Promised.{headline}
use Rattle.av_compile.proofs.planning.planned.Goals as goal

pub returns-in_err-timed-clause-refused : goal.returns-in_err-timed-clause-refused
returns-in_err-timed-clause-refused c = λ f is not_memory.
    let fault = c.in_err-timed.field-0.0 in
    let e : f ≡ fault = told c.from_residual.result fault f c.from_residual.ensures.1 is in
    let was : c.mapped_with_layout.result ≡ Err f = cc in
    c.mapped_with_layout.ensures.refused f was not_memory

pub returns-in_err-modules-clause-complete : goal.returns-in_err-modules-clause-complete
returns-in_err-modules-clause-complete c = λ t h has. memory_only c.from_residual-in_err-modules.result refusal.Memory c.from_residual-in_err-modules.ensures.1 refl

pub returns-clause-found : goal.returns-clause-found
returns-clause-found c =
    let array = c.in_ok-timed.field-0 in
    subst (λ (p : Plan). IsPlanned c.args.bytes.now c.args.sizes.now c.args.width.bits c.args.reach.size p) (sym c.with_listing.ensures)
    (record {
      timed = array.timed;
      cells = array.cells;
      headline = headline c.args.bytes.now c.args.sizes.now c.args.width.bits c.args.reach.size array.timed array.cells _ c.requires.short c.args.width.least
          c.in_ok-timed.ensures.found c.in_ok-modules.ensures c.in_ok-timed.ensures.one_solution;
      mapped = c.in_ok-timed.ensures.found;
    })

-- ---- each cause has its answer

pub returns-in_err-timed-clause-cause : goal.returns-in_err-timed-clause-cause
returns-in_err-timed-clause-cause c =
    answered_error (IsUnmapped c.args.bytes.now c.args.sizes.now c.args.width.bits c.args.reach.size) (one_unmapped c.args.bytes.now c.args.sizes.now c.args.width.bits c.args.reach.size) c.from_residual.result c.in_err-timed.field-0.0 c.from_residual.ensures.1 (returns-in_err-timed-clause-refused c)

pub returns-in_err-modules-clause-cause : goal.returns-in_err-modules-clause-cause
returns-in_err-modules-clause-cause c = answered_memory (IsUnmapped c.args.bytes.now c.args.sizes.now c.args.width.bits c.args.reach.size) (one_unmapped c.args.bytes.now c.args.sizes.now c.args.width.bits c.args.reach.size) c.from_residual-in_err-modules.result c.from_residual-in_err-modules.ensures.1

pub returns-clause-cause : goal.returns-clause-cause
returns-clause-cause c = λ f is some.
    let array = c.in_ok-timed.field-0 in
    absurd (not_mapped c.args.bytes.now c.args.sizes.now c.args.width.bits c.args.reach.size array.timed f c.in_ok-timed.ensures.found.pipelined c.in_ok-timed.ensures.found.no_cause is some)
