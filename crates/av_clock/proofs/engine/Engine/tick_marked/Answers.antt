use Rattle.std.proofs.Common.{◌≡◌, ◌∙◌, ap, length, sym, subst, true, false}
use Rattle.av_net.specs.declared.netlist.Module.{Module}
use Rattle.av_net.specs.Names.{names_of}
use Rattle.av_net.specs.Settled.{Agree}
use Rattle.av_net.specs.Clocked.{Edge}
use Rattle.av_net.specs.Sound.{IsSound}
use Rattle.av_clock.specs.Seen.{Seen, carried}
use Rattle.av_clock.specs.inner.State.{named_words}
use Rattle.av_clock.proofs.engine.Engine.tick_marked.Goals as goal

pub tick_marked-requires-clause-settled : goal.tick_marked-requires-clause-settled
tick_marked-requires-clause-settled c = c.self.invariant.settled (ap (λ (s : Seen). s.settled) c.self.view_is ∙ c.requires)

pub returns-clause-edge : goal.returns-clause-edge
returns-clause-edge c = subst (λ (s : Seen). Edge c.tick_marked.new.self.circuit false (carried s) (named_words c.tick_marked.new.self)) c.self.view_is c.tick_marked.ensures.edge

pub returns-clause-ports : goal.returns-clause-ports
returns-clause-ports c = subst (λ (s : Seen). Agree (names_of c.tick_marked.new.self.circuit.inputs) (carried s) (named_words c.tick_marked.new.self)) c.self.view_is c.tick_marked.ensures.ports

pub invariant_of-self : goal.invariant_of-self
invariant_of-self c = record {
  sound = subst IsSound (sym c.tick_marked.ensures.circuit) c.self.invariant.sound;
  settled = λ flag. absurd (let e : false ≡ true = flag in cc);
  zeros = c.tick_marked.ensures.zeros c.self.invariant.zeros;
  held = λ some. c.tick_marked.ensures.held;
  first = λ none some. ap (λ (m : Module). length m.drives) c.tick_marked.ensures.circuit ∙ c.self.invariant.shown none (ap (λ (s : Seen). s.settled) c.self.view_is ∙ c.requires);
  shown = λ none flag. absurd (let e : false ≡ true = flag in cc);
}
