use Rattle.std.proofs.Common.{◌≡◌, ℕ, ◌<◌, true, subst}
use Rattle.av_net.specs.Names.{names_of}
use Rattle.av_net.specs.Settled.{Agree}
use Rattle.av_net.specs.Clocked.{Edge}
use Rattle.av_lanes.specs.Seen.{Seen, carried}
use Rattle.av_lanes.proofs.lanes.Lanes.reset.Goals as goal

pub returns-clause-of : goal.returns-clause-of
returns-clause-of c = subst (λ (s : Seen). c.reset.new.self.of ≡ s.of) c.self.view_is c.reset.ensures.of

pub returns-clause-edge : goal.returns-clause-edge
returns-clause-edge c = subst (λ (s : Seen). (k : ℕ) → k < 8 → Edge c.reset.new.self.of true (carried k s) (carried k c.reset.new.self)) c.self.view_is c.reset.ensures.edge

pub returns-clause-ports : goal.returns-clause-ports
returns-clause-ports c = subst (λ (s : Seen). (k : ℕ) → k < 8 → Agree (names_of c.reset.new.self.of.inputs) (carried k s) (carried k c.reset.new.self)) c.self.view_is c.reset.ensures.ports
