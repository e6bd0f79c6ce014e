use Rattle.std.proofs.Common.{◌≡◌, sym, subst, true, false}
use Rattle.av_net.specs.Names.{names_of}
use Rattle.av_net.specs.Settled.{Agree}
use Rattle.av_net.specs.Clocked.{Edge}
use Rattle.av_net.specs.Sound.{IsSound}
use Rattle.av_clock.specs.Seen.{Seen, carried}
use Rattle.av_clock.specs.inner.State.{named_words}
use Rattle.av_clock.proofs.engine.Engine.tick_all.Goals as goal

pub returns-clause-edge : goal.returns-clause-edge
returns-clause-edge c = subst (λ (s : Seen). Edge c.tick_all.new.self.circuit false (carried s) (named_words c.tick_all.new.self)) c.self.view_is c.tick_all.ensures.edge

pub returns-clause-ports : goal.returns-clause-ports
returns-clause-ports c = subst (λ (s : Seen). Agree (names_of c.tick_all.new.self.circuit.inputs) (carried s) (named_words c.tick_all.new.self)) c.self.view_is c.tick_all.ensures.ports

pub invariant_of-self : goal.invariant_of-self
invariant_of-self c = record {
  sound = subst IsSound (sym c.tick_all.ensures.circuit) c.self.invariant.sound;
  settled = λ flag. absurd (let e : false ≡ true = flag in cc);
  zeros = c.tick_all.ensures.zeros c.self.invariant.zeros;
  held = λ some. absurd (let e : true ≡ false = some in cc);
  first = λ none some. absurd (let e : true ≡ false = some in cc);
  shown = λ none flag. absurd (let e : false ≡ true = flag in cc);
}
