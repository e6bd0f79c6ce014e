use Rattle.av_lanes.proofs.ByLane.{lane_set}
use Rattle.av_lanes.proofs.passes.present.Goals as goal

pub returns-then-dense-clause-words : goal.returns-then-dense-clause-words
returns-then-dense-clause-words c k lt = lane_set k c.args.words.now c.args.place c.args.word
