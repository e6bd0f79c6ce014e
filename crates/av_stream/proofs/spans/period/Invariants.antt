use Rattle.av_stream.proofs.PeriodSteps.{HasPeriodTo}
use Rattle.av_stream.proofs.spans.period.Given as goal

abbrev pub invariant-loop-cell : goal.invariant-loop-cell
invariant-loop-cell l = HasPeriodTo l.timed l.cell-items l.cell-index l.period
