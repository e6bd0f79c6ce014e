use Rattle.av_clock.proofs.SourcedWords.{wire_lt, target_at, source_in, place_in, seen_word, seen_fits, seen_flag}
use Rattle.av_clock.proofs.sourced.SourcedClock.value.Goals as goal

pub target-place-requires : goal.target-place-requires
target-place-requires c = wire_lt c.args.self.now c.self.inside.of.now c.self.inside.sources.items c.self.inside.engine c.args.wire c.self.view_is c.self.invariant.engine c.requires.place

pub index-requires : goal.index-requires
index-requires c = source_in c.args.self.now c.self.inside.of.now c.self.inside.sources c.self.inside.engine c.args.wire c.target-place.result c.self.view_is c.self.invariant.sources c.self.invariant.engine c.requires.place c.target-place.ensures

pub word-requires : goal.word-requires
word-requires c = place_in c.args.self.now c.self.inside.of.now c.self.inside.sources.items c.self.inside.engine c.args.wire c.target-place.result c.index.result.now c.self.view_is c.self.invariant.sources c.self.invariant.engine c.requires.place c.target-place.ensures c.index.ensures

pub returns-clause-word : goal.returns-clause-word
returns-clause-word c =
    seen_word c.args.self.now c.self.inside.of.now c.self.inside.sources.items c.self.inside.engine c.args.wire c.target-place.result c.index.result.now c.word.result c.self.view_is c.self.invariant.sound c.self.invariant.sources c.self.invariant.engine (target_at c.args.self.now c.self.inside.of.now c.self.inside.sources.items c.self.inside.engine c.args.wire c.target-place.result c.self.view_is c.self.invariant.engine c.requires.place c.target-place.ensures) c.index.ensures c.word.ensures.word

pub returns-clause-fits : goal.returns-clause-fits
returns-clause-fits c =
    seen_fits c.args.self.now c.self.inside.of.now c.self.inside.sources.items c.self.inside.engine c.args.wire c.target-place.result c.index.result.now c.word.result c.self.view_is c.self.invariant.sound c.self.invariant.sources c.self.invariant.engine (target_at c.args.self.now c.self.inside.of.now c.self.inside.sources.items c.self.inside.engine c.args.wire c.target-place.result c.self.view_is c.self.invariant.engine c.requires.place c.target-place.ensures) c.index.ensures c.word.ensures.fits

pub returns-clause-settled : goal.returns-clause-settled
returns-clause-settled c = seen_flag c.args.self.now c.self.inside.of.now c.self.inside.sources.items c.self.inside.engine c.self.view_is c.self.invariant.sound c.self.invariant.sources c.self.invariant.engine c.requires.settled c.word.ensures.settled
