use Rattle.std.proofs.Common.{◌≡◌, List, ap, sym, subst}
use Rattle.std.specs.Prelude.{Err}
use Rattle.av_flat.specs.Trees.{FlatSystem, view_system}
use Rattle.av_flat.specs.Legal.{IsLegal}
use Rattle.av_flat.specs.declared.timed.Helper.{Helper}
use Rattle.av_flat.specs.declared.timed.Timed.{Timed}
use Rattle.av_compile.specs.Refusals.{of_sched}
use Rattle.av_compile.specs.Scheduled.{HasFirstSchedule, IsUnscheduled, in_text, in_search}
use Rattle.av_compile.proofs.FirstFaults.{told, memory_only}
use Rattle.av_compile.proofs.OneChain.{chain_of, one_chained}
use Rattle.av_compile.proofs.OnlySolution.{one_solution_each}
use Rattle.av_compile.proofs.OneUnscheduled.{one_unscheduled, not_scheduled}
use Rattle.av_compile.proofs.OneUnmapped.{answered_error, answered_memory}
use Rattle.av_compile.proofs.Unscheduled.{serialises, unchained, none_where_found}
use Rattle.av_compile.proofs.schedule.scheduled.Goals as goal

-- ---- the steps before the search

pub edges-requires-clause-chained : goal.edges-requires-clause-chained
edges-requires-clause-chained c = c.in_ok-serial.ensures.found.serial.chained

pub edges-requires-clause-proper : goal.edges-requires-clause-proper
edges-requires-clause-proper c = let h = c.in_ok-serial.ensures.found in h.serial.proper (h.given.proper h.proper)

pub first_times-requires-clause-chained : goal.first_times-requires-clause-chained
first_times-requires-clause-chained c = c.in_ok-serial.ensures.found.serial.chained

pub first_times-requires-clause-proper : goal.first_times-requires-clause-proper
first_times-requires-clause-proper c = let h = c.in_ok-serial.ensures.found in h.serial.proper (h.given.proper h.proper)

-- ---- the first fault

pub returns-in_err-flat-clause-refused : goal.returns-in_err-flat-clause-refused
returns-in_err-flat-clause-refused c = λ f is not_memory.
    let fault = c.in_err-flat.field-0.0 in
    let e : f ≡ fault = told c.from_residual.result fault f c.from_residual.ensures.1 is in
    let was : c.flattened.result ≡ Err f = cc in
    in_text (c.flattened.ensures.refused f was not_memory)

pub returns-in_err-serial-clause-refused : goal.returns-in_err-serial-clause-refused
returns-in_err-serial-clause-refused c = λ f is not_memory.
    let fault = c.in_err-serial.field-0.0 in
    let e : f ≡ fault = told c.from_residual-in_err-serial.result fault f c.from_residual-in_err-serial.ensures.1 is in
    let was : c.chained.result ≡ Err f = cc in
    unchained c.args.bytes.now c.args.sizes.now c.args.width.bits c.args.reach.size f (view_system c.in_ok-flat.flat) c.in_ok-flat.ensures.found (c.chained.ensures.refused f was not_memory)

pub returns-in_err-times-clause-refused : goal.returns-in_err-times-clause-refused
returns-in_err-times-clause-refused c = λ f is not_memory.
    let fault = c.in_err-times.field-0.0 in
    let e : f ≡ of_sched fault = told c.from_residual-in_err-times.result (of_sched fault) f c.from_residual-in_err-times.ensures.1 is in
    in_search fault e (view_system c.in_ok-serial.serial)
    (serialises c.args.bytes.now c.args.sizes.now c.args.width.bits (view_system c.in_ok-flat.flat) (view_system c.in_ok-serial.serial) c.in_ok-flat.ensures.found c.in_ok-serial.ensures.found)
    c.in_err-times.ensures.fault

-- ---- none where there is none

pub returns-in_err-flat-clause-complete : goal.returns-in_err-flat-clause-complete
returns-in_err-flat-clause-complete c = λ s h first.
    memory_only c.from_residual.result c.in_err-flat.field-0.0 c.from_residual.ensures.1 (c.in_err-flat.ensures.complete h.normalises.flat h.normalises.flattens)

pub returns-in_err-serial-clause-complete : goal.returns-in_err-serial-clause-complete
returns-in_err-serial-clause-complete c = λ s h first.
    let chain = chain_of c.args.bytes.now c.args.sizes.now c.args.width.bits (view_system c.in_ok-flat.flat) s c.in_ok-flat.ensures.found h in
    memory_only c.from_residual-in_err-serial.result c.in_err-serial.field-0.0 c.from_residual-in_err-serial.ensures.1 (c.in_err-serial.ensures.complete s chain)

pub returns-in_err-times-clause-complete : goal.returns-in_err-times-clause-complete
returns-in_err-times-clause-complete c = λ s h first.
    let fault = c.in_err-times.field-0.0 in
    let found = serialises c.args.bytes.now c.args.sizes.now c.args.width.bits (view_system c.in_ok-flat.flat) (view_system c.in_ok-serial.serial) c.in_ok-flat.ensures.found c.in_ok-serial.ensures.found in
    let same = one_chained c.args.bytes.now c.args.sizes.now c.args.width.bits s (view_system c.in_ok-serial.serial) h found in
    memory_only c.from_residual-in_err-times.result (of_sched fault) c.from_residual-in_err-times.ensures.1
    (ap of_sched (subst (λ (t : FlatSystem). HasFirstSchedule t c.args.reach.size) same first fault c.in_err-times.ensures.fault))

-- ---- what is found

pub returns-clause-found : goal.returns-clause-found
returns-clause-found c =
    let flat = c.in_ok-serial.serial in
    let times = c.in_ok-times.times in
    record {
      serialises = serialises c.args.bytes.now c.args.sizes.now c.args.width.bits (view_system c.in_ok-flat.flat) (view_system flat) c.in_ok-flat.ensures.found c.in_ok-serial.ensures.found;
      first = c.in_ok-times.ensures.first;
      no_cause = none_where_found (view_system flat) c.args.reach.size times c.first_times.result c.in_ok-times.was c.first_times.ensures.refused;
      no_helper = c.new.ensures;
      legal = subst (λ (helpers : List Helper). IsLegal (record { flat = flat; times = times; helpers = helpers })) (sym c.new.ensures) c.in_ok-times.ensures.legal;
    }

pub returns-clause-one_solution : goal.returns-clause-one_solution
returns-clause-one_solution c =
    let timed : Timed = record { flat = c.in_ok-serial.serial; times = c.in_ok-times.times; helpers = c.new.result } in
    one_solution_each c.args.bytes.now c.args.sizes.now c.args.width.bits c.args.reach.size timed c.requires.short c.args.width.least (returns-clause-found c)

-- ---- each cause has its answer

pub returns-in_err-flat-clause-cause : goal.returns-in_err-flat-clause-cause
returns-in_err-flat-clause-cause c =
    answered_error (IsUnscheduled c.args.bytes.now c.args.sizes.now c.args.width.bits c.args.reach.size) (one_unscheduled c.args.bytes.now c.args.sizes.now c.args.width.bits c.args.reach.size) c.from_residual.result c.in_err-flat.field-0.0 c.from_residual.ensures.1 (returns-in_err-flat-clause-refused c)

pub returns-in_err-serial-clause-cause : goal.returns-in_err-serial-clause-cause
returns-in_err-serial-clause-cause c =
    answered_error (IsUnscheduled c.args.bytes.now c.args.sizes.now c.args.width.bits c.args.reach.size) (one_unscheduled c.args.bytes.now c.args.sizes.now c.args.width.bits c.args.reach.size) c.from_residual-in_err-serial.result c.in_err-serial.field-0.0 c.from_residual-in_err-serial.ensures.1 (returns-in_err-serial-clause-refused c)

pub returns-in_err-edges-clause-cause : goal.returns-in_err-edges-clause-cause
returns-in_err-edges-clause-cause c = answered_memory (IsUnscheduled c.args.bytes.now c.args.sizes.now c.args.width.bits c.args.reach.size) (one_unscheduled c.args.bytes.now c.args.sizes.now c.args.width.bits c.args.reach.size) c.from_residual-in_err-edges.result c.from_residual-in_err-edges.ensures.1

pub returns-in_err-times-clause-cause : goal.returns-in_err-times-clause-cause
returns-in_err-times-clause-cause c =
    answered_error (IsUnscheduled c.args.bytes.now c.args.sizes.now c.args.width.bits c.args.reach.size) (one_unscheduled c.args.bytes.now c.args.sizes.now c.args.width.bits c.args.reach.size) c.from_residual-in_err-times.result (of_sched c.in_err-times.field-0.0) c.from_residual-in_err-times.ensures.1 (returns-in_err-times-clause-refused c)

pub returns-clause-cause : goal.returns-clause-cause
returns-clause-cause c = λ f is some.
    let found = returns-clause-found c in
    absurd (not_scheduled c.args.bytes.now c.args.sizes.now c.args.width.bits c.args.reach.size (view_system c.in_ok-serial.serial) f found.serialises found.no_cause is some)
