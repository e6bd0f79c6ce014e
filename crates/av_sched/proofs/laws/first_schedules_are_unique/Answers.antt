use Rattle.av_sched.proofs.OneSchedule.{one_schedule}
use Rattle.av_sched.proofs.laws.first_schedules_are_unique.Goals as goal

pub returns : goal.returns
returns c = one_schedule
