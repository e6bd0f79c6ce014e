use Rattle.av_flat.specs.Trees.{view_system}
use Rattle.av_commands.proofs.LeastSchedules.{none_where_least}
use Rattle.av_commands.proofs.bests.measured.Goals as goal

pub returns-clause-no_cause : goal.returns-clause-no_cause
returns-clause-no_cause c = none_where_least (view_system c.args.flat.now) c.args.reach.size c.in_ok-timed.timed c.least.result c.in_ok-timed.was c.least.ensures.refused
