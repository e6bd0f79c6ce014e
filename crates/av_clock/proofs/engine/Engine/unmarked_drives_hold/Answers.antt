use Rattle.av_clock.proofs.Views.{unmarked_hold}
use Rattle.av_clock.proofs.engine.Engine.unmarked_drives_hold.Goals as goal

pub returns : goal.returns
returns c =
    unmarked_hold c.args.self.now c.self.inside.state.circuit c.self.inside.state.words.items c.self.inside.settled c.self.inside.dense c.self.inside.work c.self.inside.state.stale c.self.inside.state.due c.self.view_is c.self.invariant.held
