use Rattle.av_clock.specs.Circuit.{net}
use Rattle.av_clock.proofs.Settling.{target_read}
use Rattle.av_clock.proofs.circuit.Circuit.target.Goals as goal

pub returns : goal.returns
returns c = λ d. target_read c.args.self.now (net c.self.inside) c.self.inside.merged.assignments.items c.args.drive c.index.result.now c.self.view_is c.self.invariant.assignments c.requires c.index.ensures d
