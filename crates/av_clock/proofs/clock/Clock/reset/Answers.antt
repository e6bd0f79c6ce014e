use Rattle.std.proofs.Common.{◌≡◌, true, subst}
use Rattle.av_net.specs.Names.{names_of}
use Rattle.av_net.specs.Settled.{Agree}
use Rattle.av_net.specs.Clocked.{Edge}
use Rattle.av_clock.specs.Seen.{Seen, carried}
use Rattle.av_clock.proofs.clock.Clock.reset.Goals as goal

pub returns-clause-of : goal.returns-clause-of
returns-clause-of c = subst (λ (s : Seen). c.reset.new.self.of ≡ s.of) c.self.view_is c.reset.ensures.of

pub returns-clause-edge : goal.returns-clause-edge
returns-clause-edge c = subst (λ (s : Seen). Edge c.reset.new.self.of true (carried s) (carried c.reset.new.self)) c.self.view_is c.reset.ensures.edge

pub returns-clause-ports : goal.returns-clause-ports
returns-clause-ports c = subst (λ (s : Seen). Agree (names_of c.reset.new.self.of.inputs) (carried s) (carried c.reset.new.self)) c.self.view_is c.reset.ensures.ports

pub returns-clause-work : goal.returns-clause-work
returns-clause-work c = subst (λ (s : Seen). c.reset.new.self.work ≡ s.work) c.self.view_is c.reset.ensures.work
