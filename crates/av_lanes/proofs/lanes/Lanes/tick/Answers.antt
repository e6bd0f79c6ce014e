use Rattle.std.proofs.Common.{◌≡◌, ℕ, ◌<◌, false, subst, sym}
use Rattle.std.specs.Prelude.{IsTrue}
use Rattle.av_net.specs.Names.{names_of}
use Rattle.av_net.specs.Settled.{Agree}
use Rattle.av_net.specs.Clocked.{Edge}
use Rattle.av_lanes.specs.Seen.{Seen, carried}
use Rattle.av_lanes.proofs.lanes.Lanes.tick.Goals as goal

pub tick-requires : goal.tick-requires
tick-requires c = subst (λ (s : Seen). IsTrue s.settled) (sym c.self.view_is) c.requires

pub returns-clause-of : goal.returns-clause-of
returns-clause-of c = subst (λ (s : Seen). c.tick.new.self.of ≡ s.of) c.self.view_is c.tick.ensures.of

pub returns-clause-edge : goal.returns-clause-edge
returns-clause-edge c = subst (λ (s : Seen). (k : ℕ) → k < 8 → Edge c.tick.new.self.of false (carried k s) (carried k c.tick.new.self)) c.self.view_is c.tick.ensures.edge

pub returns-clause-ports : goal.returns-clause-ports
returns-clause-ports c = subst (λ (s : Seen). (k : ℕ) → k < 8 → Agree (names_of c.tick.new.self.of.inputs) (carried k s) (carried k c.tick.new.self)) c.self.view_is c.tick.ensures.ports
