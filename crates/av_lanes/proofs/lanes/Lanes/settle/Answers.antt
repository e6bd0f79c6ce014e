use Rattle.std.proofs.Common.{◌≡◌, ℕ, ◌<◌, subst}
use Rattle.av_net.specs.Names.{given_names}
use Rattle.av_net.specs.Settled.{Agree}
use Rattle.av_lanes.specs.Seen.{Seen, carried}
use Rattle.av_lanes.proofs.lanes.Lanes.settle.Goals as goal

pub returns-clause-of : goal.returns-clause-of
returns-clause-of c = subst (λ (s : Seen). c.settle.new.self.of ≡ s.of) c.self.view_is c.settle.ensures.of

pub returns-clause-given : goal.returns-clause-given
returns-clause-given c = subst (λ (s : Seen). (k : ℕ) → k < 8 → Agree (given_names c.settle.new.self.of) (carried k s) (carried k c.settle.new.self)) c.self.view_is c.settle.ensures.given
