use Rattle.std.proofs.Common.{ap}
use Rattle.av_clock.specs.Seen.{Seen}
use Rattle.av_clock.proofs.SourcedWords.{engine_call, seen_set, set_inputs, set_value, seen_set_port, seen_set_others}
use Rattle.av_clock.proofs.sourced.SourcedClock.set.Goals as goal

pub set-requires-clause-port : goal.set-requires-clause-port
set-requires-clause-port c = set_inputs c.args.self.now c.self.inside.of.now c.self.inside.sources.items c.self.inside.engine c.args.port c.self.view_is c.self.invariant.engine c.requires.port

pub set-requires-clause-fits : goal.set-requires-clause-fits
set-requires-clause-fits c = set_value c.args.self.now c.self.inside.of.now c.self.inside.sources.items c.self.inside.engine c.args.port c.args.value c.self.view_is c.self.invariant.engine c.requires.fits

pub returns-clause-words : goal.returns-clause-words
returns-clause-words c = seen_set c.args.self.now c.self.inside.of.now c.self.inside.sources.items c.self.inside.engine c.set.new.self _ c.args.port c.args.value c.self.view_is c.self.invariant.sound c.self.invariant.sources c.self.invariant.engine c.requires.port c.set.ensures.words

pub returns-clause-port : goal.returns-clause-port
returns-clause-port c = seen_set_port c.args.self.now c.self.inside.of.now c.self.inside.sources.items c.self.inside.engine c.set.new.self c.args.port c.args.value c.self.view_is c.self.invariant.sound c.self.invariant.sources c.self.invariant.engine c.requires.port c.set.ensures.words

pub returns-clause-others : goal.returns-clause-others
returns-clause-others c = seen_set_others c.args.self.now c.self.inside.of.now c.self.inside.sources.items c.self.inside.engine c.set.new.self c.args.port c.args.value c.self.view_is c.self.invariant.sound c.self.invariant.sources c.self.invariant.engine c.requires.port c.set.ensures.words

pub invariant_of-self : goal.invariant_of-self
invariant_of-self c = record { sound = c.self.invariant.sound; sources = c.self.invariant.sources; engine = engine_call c.self.inside.of.now c.self.inside.sources.items c.self.inside.engine c.set.new.self c.self.invariant.engine (ap (λ (s : Seen). s.of) c.set.ensures.words) c.is_whole.ensures }
