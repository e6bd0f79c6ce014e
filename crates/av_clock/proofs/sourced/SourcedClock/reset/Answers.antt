use Rattle.std.proofs.Common.{true, ap, ◌∙◌}
use Rattle.av_clock.specs.Seen.{Seen}
use Rattle.av_clock.proofs.SourcedWords.{engine_call, seen_edge, seen_ports}
use Rattle.av_clock.proofs.sourced.SourcedClock.reset.Goals as goal

pub returns-clause-edge : goal.returns-clause-edge
returns-clause-edge c = seen_edge c.args.self.now c.self.inside.of.now c.self.inside.sources.items c.self.inside.engine c.reset.new.self true c.self.view_is c.self.invariant.sound c.self.invariant.sources c.self.invariant.engine (engine_call c.self.inside.of.now c.self.inside.sources.items c.self.inside.engine c.reset.new.self c.self.invariant.engine c.reset.ensures.of c.is_whole.ensures) c.reset.ensures.edge

pub returns-clause-ports : goal.returns-clause-ports
returns-clause-ports c = seen_ports c.args.self.now c.self.inside.of.now c.self.inside.sources.items c.self.inside.engine c.reset.new.self c.self.view_is c.self.invariant.sound c.self.invariant.sources c.self.invariant.engine (engine_call c.self.inside.of.now c.self.inside.sources.items c.self.inside.engine c.reset.new.self c.self.invariant.engine c.reset.ensures.of c.is_whole.ensures) c.reset.ensures.ports

pub returns-clause-work : goal.returns-clause-work
returns-clause-work c = c.reset.ensures.work ∙ ap (λ (s : Seen). s.work) c.self.view_is

pub invariant_of-self : goal.invariant_of-self
invariant_of-self c = record { sound = c.self.invariant.sound; sources = c.self.invariant.sources; engine = engine_call c.self.inside.of.now c.self.inside.sources.items c.self.inside.engine c.reset.new.self c.self.invariant.engine c.reset.ensures.of c.is_whole.ensures }
