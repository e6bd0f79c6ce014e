use Rattle.std.proofs.Common.{refl, subst, List}
use Rattle.av_names.specs.declared.size.Size.{Size}
use Rattle.av_compile.specs.Scheduled.{IsScheduled, HasOneSolutionEach, IsUnscheduled}
use Rattle.av_commands.proofs.Scheduling.{schedule_refused, schedule_given}
use Rattle.av_commands.proofs.schedules.schedule.Goals as goal

pub returns-in-Err-scheduled : goal.returns-in-Err-scheduled
returns-in-Err-scheduled g c =
    let refusal = c.in-Err-scheduled.refusal in
    schedule_refused c.args.words.now c.in-Ok.sizes c.args.width.bits c.args.reach.size c.args.bytes.now refusal c.in-Ok.ensures.given
    (λ some. subst (λ (xs : List Size). IsUnscheduled c.args.bytes.now xs c.args.width.bits c.args.reach.size refusal) c.as_slice.ensures (c.in-Err-scheduled.ensures.refused refusal refl some))
    c.put_alpha_refusal.ensures.memory c.put_alpha_refusal.ensures.refused

pub returns : goal.returns
returns g c =
    let timed = c.in-Ok-scheduled.timed in
    schedule_given c.args.words.now c.in-Ok.sizes c.args.width.bits c.args.reach.size c.args.bytes.now timed c.in-Ok.ensures.given
    (subst (λ (xs : List Size). IsScheduled c.args.bytes.now xs c.args.width.bits c.args.reach.size timed) c.as_slice.ensures c.in-Ok-scheduled.ensures.found)
    (subst (λ (xs : List Size). HasOneSolutionEach c.args.bytes.now xs c.args.width.bits) c.as_slice.ensures c.in-Ok-scheduled.ensures.one_solution)
    c.put_schedule.ensures
