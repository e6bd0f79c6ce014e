use Rattle.std.proofs.Common.{◌≡◌, ◌∙◌, ap, length, sym, subst, true, false}
use Rattle.av_net.specs.declared.netlist.Module.{Module}
use Rattle.av_net.specs.Names.{names_of}
use Rattle.av_net.specs.Settled.{Agree}
use Rattle.av_net.specs.Clocked.{Edge}
use Rattle.av_net.specs.Sound.{IsSound}
use Rattle.av_clock.specs.Seen.{Seen, carried}
use Rattle.av_clock.specs.inner.State.{named_words}
use Rattle.av_clock.proofs.engine.Engine.reset.Goals as goal

pub returns-clause-edge : goal.returns-clause-edge
returns-clause-edge c = subst (λ (s : Seen). Edge c.reset.new.self.circuit true (carried s) (named_words c.reset.new.self)) c.self.view_is c.reset.ensures.edge

pub returns-clause-ports : goal.returns-clause-ports
returns-clause-ports c = subst (λ (s : Seen). Agree (names_of c.reset.new.self.circuit.inputs) (carried s) (named_words c.reset.new.self)) c.self.view_is c.reset.ensures.ports

pub invariant_of-self : goal.invariant_of-self
invariant_of-self c = record {
  sound = subst IsSound (sym c.reset.ensures.circuit) c.self.invariant.sound;
  settled = λ flag. absurd (let e : false ≡ true = flag in cc);
  zeros = c.reset.ensures.zeros c.self.invariant.zeros;
  held = λ some. c.reset.ensures.held (c.self.invariant.held some);
  first = λ none some. ap (λ (m : Module). length m.drives) c.reset.ensures.circuit ∙ c.self.invariant.first none some;
  shown = λ none flag. absurd (let e : false ≡ true = flag in cc);
}
