use Rattle.av_check.proofs.overlap.least_of_both.Goals as goal

pub least_point-requires-clause-low : goal.least_point-requires-clause-low
least_point-requires-clause-low c = assumption

pub least_point-requires-clause-high : goal.least_point-requires-clause-high
least_point-requires-clause-high c = assumption
