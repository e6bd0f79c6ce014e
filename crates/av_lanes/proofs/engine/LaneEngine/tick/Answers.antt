use Rattle.std.proofs.Common.{subst, false}
use Rattle.av_net.specs.Names.{names_of}
use Rattle.av_net.specs.Settled.{Agree}
use Rattle.av_net.specs.Clocked.{Edge}
use Rattle.av_lanes.specs.Seen.{Seen, carried}
use Rattle.av_lanes.proofs.engine.LaneEngine.tick.Goals as goal

pub returns-then-is_dense_tick-clause-edge : goal.returns-then-is_dense_tick-clause-edge
returns-then-is_dense_tick-clause-edge c k lt =
    subst (λ (s : Seen). Edge c.tick_all.new.self.of false (carried k s) (carried k c.tick_all.new.self)) c.is_dense_tick.ensures.kept (c.tick_all.ensures.edge k lt)

pub returns-then-is_dense_tick-clause-ports : goal.returns-then-is_dense_tick-clause-ports
returns-then-is_dense_tick-clause-ports c k lt =
    subst (λ (s : Seen). Agree (names_of c.tick_all.new.self.of.inputs) (carried k s) (carried k c.tick_all.new.self)) c.is_dense_tick.ensures.kept (c.tick_all.ensures.ports k lt)

pub returns-else-is_dense_tick-clause-edge : goal.returns-else-is_dense_tick-clause-edge
returns-else-is_dense_tick-clause-edge c k lt =
    subst (λ (s : Seen). Edge c.tick_marked.new.self.of false (carried k s) (carried k c.tick_marked.new.self)) c.is_dense_tick.ensures.kept (c.tick_marked.ensures.edge k lt)

pub returns-else-is_dense_tick-clause-ports : goal.returns-else-is_dense_tick-clause-ports
returns-else-is_dense_tick-clause-ports c k lt =
    subst (λ (s : Seen). Agree (names_of c.tick_marked.new.self.of.inputs) (carried k s) (carried k c.tick_marked.new.self)) c.is_dense_tick.ensures.kept (c.tick_marked.ensures.ports k lt)
