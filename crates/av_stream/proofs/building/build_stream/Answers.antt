use Rattle.av_stream.proofs.Counted.{counts, within_count}
use Rattle.av_stream.proofs.StreamOf.{stream_of}
use Rattle.av_stream.proofs.building.build_stream.Goals as goal

pub build_counting-requires-clause-counter : goal.build_counting-requires-clause-counter
build_counting-requires-clause-counter c = counts c.args.timed.now c.args.cells.now c.period-period.result c.period-period.ensures c.requires.legal c.requires.whole c.requires.within

pub build_counting-requires-clause-apart : goal.build_counting-requires-clause-apart
build_counting-requires-clause-apart c = within_count c.args.timed.now c.args.cells.now c.period-period.result c.period-period.ensures

pub returns : goal.returns
returns c = stream_of c.args.timed.now c.args.cells.now c.requires.legal c.period-period.result c.period-period.ensures c.in_ok-plan.plan c.in_ok-plan.ensures
