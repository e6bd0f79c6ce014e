use Rattle.av_clock.proofs.Views.{drive_seen, target_seen}
use Rattle.av_clock.proofs.engine.Engine.target.Goals as goal

pub target-requires : goal.target-requires
target-requires c = drive_seen c.args.self.now c.self.inside.state.circuit c.self.inside.state.words.items c.self.inside.settled c.self.inside.work c.args.drive c.self.view_is c.requires

pub returns : goal.returns
returns c = target_seen c.args.self.now c.self.inside.state.circuit c.self.inside.state.words.items c.self.inside.settled c.self.inside.work c.args.drive c.target.result c.self.view_is c.target.ensures
