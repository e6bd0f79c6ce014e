use Rattle.av_clock.proofs.Views.{word_within, word_seen, word_fits_seen, value_settled}
use Rattle.av_clock.proofs.engine.Engine.word.Goals as goal

pub index-requires : goal.index-requires
index-requires c = word_within c.args.self.now c.self.inside.state.circuit c.self.inside.state.words c.self.inside.settled c.self.inside.work c.args.place c.self.view_is c.self.inside.state.size c.requires

pub returns-clause-word : goal.returns-clause-word
returns-clause-word c =
    word_seen c.args.self.now c.self.inside.state.circuit c.self.inside.state.words c.self.inside.settled c.self.inside.work c.args.place c.index.result.now c.self.view_is c.self.inside.state.size c.requires c.index.ensures

pub returns-clause-fits : goal.returns-clause-fits
returns-clause-fits c =
    word_fits_seen c.args.self.now c.self.inside.state.circuit c.self.inside.state.words c.self.inside.settled c.self.inside.work c.args.place c.index.result.now c.self.view_is c.self.invariant.sound c.self.inside.state.size c.self.inside.state.fit c.requires c.index.ensures

pub returns-clause-settled : goal.returns-clause-settled
returns-clause-settled c = value_settled c.args.self.now c.self.inside.state.circuit c.self.inside.state.words.items c.self.inside.settled c.self.inside.work c.self.view_is c.self.invariant.settled
