use Rattle.av_clock.proofs.Views.{whole_seen}
use Rattle.av_clock.proofs.engine.Engine.is_whole.Goals as goal

pub returns : goal.returns
returns c = whole_seen c.args.self.now c.self.inside.state.circuit c.self.inside.state.words.items c.self.inside.settled c.self.inside.dense c.self.inside.work c.self.inside.state.stale c.self.view_is c.self.inside.state.size c.self.inside.state.stale_size
