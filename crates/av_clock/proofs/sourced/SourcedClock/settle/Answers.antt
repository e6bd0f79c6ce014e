use Rattle.av_clock.proofs.SourcedWords.{engine_call, seen_settled, seen_given, seen_work, seen_first, seen_most, seen_alone, seen_touched}
use Rattle.av_clock.proofs.sourced.SourcedClock.settle.Goals as goal

pub returns-clause-settled : goal.returns-clause-settled
returns-clause-settled c = seen_settled c.self.inside.of.now c.self.inside.sources.items c.settle.new.self c.self.invariant.sound c.self.invariant.sources (engine_call c.self.inside.of.now c.self.inside.sources.items c.self.inside.engine c.settle.new.self c.self.invariant.engine c.settle.ensures.of c.is_whole.ensures) c.settle.ensures.settled

pub returns-clause-given : goal.returns-clause-given
returns-clause-given c = seen_given c.args.self.now c.self.inside.of.now c.self.inside.sources.items c.self.inside.engine c.settle.new.self c.self.view_is c.self.invariant.sound c.self.invariant.sources c.self.invariant.engine (engine_call c.self.inside.of.now c.self.inside.sources.items c.self.inside.engine c.settle.new.self c.self.invariant.engine c.settle.ensures.of c.is_whole.ensures) c.settle.ensures.given

pub returns-clause-work : goal.returns-clause-work
returns-clause-work c = seen_work c.args.self.now c.self.inside.of.now c.self.inside.sources.items c.self.inside.engine c.settle.new.self c.self.view_is c.settle.ensures.work

pub returns-clause-first : goal.returns-clause-first
returns-clause-first c = seen_first c.args.self.now c.self.inside.of.now c.self.inside.sources.items c.self.inside.engine c.settle.new.self c.self.view_is (engine_call c.self.inside.of.now c.self.inside.sources.items c.self.inside.engine c.settle.new.self c.self.invariant.engine c.settle.ensures.of c.is_whole.ensures) c.settle.ensures.first

pub returns-clause-most : goal.returns-clause-most
returns-clause-most c = seen_most c.args.self.now c.self.inside.of.now c.self.inside.sources.items c.self.inside.engine c.settle.new.self c.self.view_is c.self.invariant.engine (engine_call c.self.inside.of.now c.self.inside.sources.items c.self.inside.engine c.settle.new.self c.self.invariant.engine c.settle.ensures.of c.is_whole.ensures) c.settle.ensures.most

pub returns-clause-alone : goal.returns-clause-alone
returns-clause-alone c = seen_alone c.args.self.now c.self.inside.of.now c.self.inside.sources.items c.self.inside.engine c.settle.new.self.work c.self.view_is c.self.invariant.engine c.settle.ensures.alone

pub returns-clause-touched : goal.returns-clause-touched
returns-clause-touched c = seen_touched c.args.self.now c.self.inside.of.now c.self.inside.sources.items c.self.inside.engine c.settle.new.self c.self.view_is c.self.invariant.sound c.self.invariant.sources c.self.invariant.engine (engine_call c.self.inside.of.now c.self.inside.sources.items c.self.inside.engine c.settle.new.self c.self.invariant.engine c.settle.ensures.of c.is_whole.ensures) c.settle.ensures.touched

pub invariant_of-self : goal.invariant_of-self
invariant_of-self c = record { sound = c.self.invariant.sound; sources = c.self.invariant.sources; engine = engine_call c.self.inside.of.now c.self.inside.sources.items c.self.inside.engine c.settle.new.self c.self.invariant.engine c.settle.ensures.of c.is_whole.ensures }
