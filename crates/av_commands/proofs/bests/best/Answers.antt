use Rattle.std.proofs.Common.{◌<◌, refl, subst, length, List, arith}
use Rattle.av_flat.specs.Trees.{view_system}
use Rattle.av_names.specs.declared.size.Size.{Size}
use Rattle.av_compile.specs.Scheduled.{Serialises}
use Rattle.av_commands.specs.Bests.{IsUnchained}
use Rattle.av_commands.proofs.LeastSchedules.{is_chained, is_proper, unchained_refused, best_refused, best_given}
use Rattle.av_commands.proofs.bests.best.Goals as goal

pub returns-in-Err-chained : goal.returns-in-Err-chained
returns-in-Err-chained g c =
    let r = c.in-Err-chained.refusal in
    unchained_refused c.args.words.now c.in-Ok.sizes c.args.width.bits c.args.reach.size c.args.bytes.now r c.in-Ok.ensures.given
    (λ some. subst (λ (xs : List Size). IsUnchained c.args.bytes.now xs c.args.width.bits r) c.as_slice.ensures (c.in-Err-chained.ensures.refused r refl some))
    c.put_alpha_refusal.ensures.memory c.put_alpha_refusal.ensures.refused

pub measured-requires-clause-chained : goal.measured-requires-clause-chained
measured-requires-clause-chained g c = is_chained c.args.bytes.now c.as_slice.result.now c.args.width.bits (view_system c.in-Ok-chained.flat) c.in-Ok-chained.ensures.found

pub measured-requires-clause-proper : goal.measured-requires-clause-proper
measured-requires-clause-proper g c = is_proper c.args.bytes.now c.as_slice.result.now c.args.width.bits (view_system c.in-Ok-chained.flat) c.in-Ok-chained.ensures.found

pub returns-in-Err-measured : goal.returns-in-Err-measured
returns-in-Err-measured g c =
    let s = view_system c.in-Ok-chained.flat in
    best_refused c.args.words.now c.in-Ok.sizes c.args.width.bits c.args.reach.size c.args.bytes.now s c.in-Err-measured.fault c.in-Ok.ensures.given
    (subst (λ (xs : List Size). Serialises c.args.bytes.now xs c.args.width.bits s) c.as_slice.ensures c.in-Ok-chained.ensures.found)
    c.in-Err-measured.ensures.fault c.put_best_refusal.ensures.memory c.put_best_refusal.ensures.refused

pub returns : goal.returns
returns g c =
    let s = view_system c.in-Ok-chained.flat in
    let t = c.in-Ok-measured.timed in
    let n = c.in-Ok-measured.cycles in
    let short : length c.args.bytes.now < 4294967295 = omega (arith, c.requires) in
    best_given c.args.words.now c.in-Ok.sizes c.args.width.bits c.args.reach.size c.args.bytes.now s t n short c.args.width.least c.in-Ok.ensures.given
    (subst (λ (xs : List Size). Serialises c.args.bytes.now xs c.args.width.bits s) c.as_slice.ensures c.in-Ok-chained.ensures.found)
    c.in-Ok-measured.ensures.same c.in-Ok-measured.ensures.no_cause c.in-Ok-measured.ensures.least c.in-Ok-measured.ensures.legal c.in-Ok-measured.ensures.cycles
    c.put_least_schedule.ensures
