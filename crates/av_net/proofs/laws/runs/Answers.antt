use Rattle.av_net.proofs.Cycles.{has_runs, one_run}
use Rattle.av_net.proofs.RunFits.{runs_fit}
use Rattle.av_net.proofs.laws.runs.Goals as goal

pub returns : goal.returns
returns c = record { some = has_runs; once = one_run; fit = runs_fit }
