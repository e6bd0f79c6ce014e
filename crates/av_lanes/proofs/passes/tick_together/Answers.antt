use Rattle.std.proofs.Common.{◌∙◌}
use Rattle.av_clock.proofs.Edges.{next_fits}
use Rattle.av_lanes.specs.Seen.{lane}
use Rattle.av_lanes.proofs.passes.tick_together.Goals as goal

pub store-requires-clause-fitting : goal.store-requires-clause-fitting
store-requires-clause-fitting c k lt = next_fits c.args.circuit.now (lane k c.args.words.now) (lane k c.next_words.new.next) c.requires.sound (c.requires.fit k lt) (c.next_words.ensures k lt)

pub returns-clause-edge : goal.returns-clause-edge
returns-clause-edge c k lt i d below = c.store.ensures.registers k lt i below d ∙ c.next_words.ensures k lt i below d
