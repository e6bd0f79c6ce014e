use Rattle.av_lanes.proofs.LaneStates.{wire_within, source_within, word_within, lane_word, lane_word_fits, value_settled}
use Rattle.av_lanes.proofs.engine.LaneEngine.value.Goals as goal

pub target-place-requires : goal.target-place-requires
target-place-requires c = wire_within c.args.self.now c.self.inside.of.now c.self.inside.circuit c.self.inside.sources.items c.self.inside.words.items c.self.inside.settled c.args.wire c.self.view_is c.self.invariant.circuit c.requires.place

pub index-requires : goal.index-requires
index-requires c = source_within c.args.self.now c.self.inside.of.now c.self.inside.circuit c.self.inside.sources c.self.inside.words.items c.self.inside.settled c.args.wire c.target-place.result c.self.view_is c.self.invariant.sources c.self.invariant.circuit c.requires.place c.target-place.ensures

pub index-requires-2 : goal.index-requires-2
index-requires-2 c = word_within c.args.self.now c.self.inside.of.now c.self.inside.circuit c.self.inside.sources.items c.self.inside.words c.self.inside.settled c.args.wire c.target-place.result c.index.result.now c.self.view_is c.self.invariant.sources c.self.invariant.circuit c.self.invariant.size c.requires.place c.target-place.ensures c.index.ensures

pub returns-clause-word : goal.returns-clause-word
returns-clause-word c k lt =
    lane_word c.args.self.now c.self.inside.of.now c.self.inside.circuit c.self.inside.sources.items c.self.inside.words.items c.self.inside.settled k c.args.wire c.target-place.result c.index.result.now c.index-2.result.now c.self.view_is c.self.invariant.sound c.self.invariant.sources c.self.invariant.circuit c.self.invariant.size c.requires.place c.target-place.ensures c.index.ensures c.index-2.ensures

pub returns-clause-fits : goal.returns-clause-fits
returns-clause-fits c k lt =
    lane_word_fits c.args.self.now c.self.inside.of.now c.self.inside.circuit c.self.inside.sources.items c.self.inside.words.items c.self.inside.settled k c.args.wire c.target-place.result c.index.result.now c.index-2.result.now c.self.view_is c.self.invariant.sound c.self.invariant.sources c.self.invariant.circuit c.self.invariant.safe c.self.invariant.size (c.self.invariant.lanes k lt).fit c.requires.place c.target-place.ensures c.index.ensures c.index-2.ensures

pub returns-clause-settled : goal.returns-clause-settled
returns-clause-settled c k lt = value_settled c.args.self.now c.self.inside.of.now c.self.inside.circuit c.self.inside.sources.items c.self.inside.words.items c.self.inside.settled k c.self.view_is c.self.invariant.sound c.self.invariant.sources c.self.invariant.circuit c.self.invariant.size (c.self.invariant.lanes k lt).settled_words c.requires.settled
