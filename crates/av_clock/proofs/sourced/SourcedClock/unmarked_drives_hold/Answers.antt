use Rattle.av_clock.proofs.SourcedWords.{seen_unmarked}
use Rattle.av_clock.proofs.sourced.SourcedClock.unmarked_drives_hold.Goals as goal

pub returns : goal.returns
returns c = seen_unmarked c.args.self.now c.self.inside.of.now c.self.inside.sources.items c.self.inside.engine c.self.view_is c.self.invariant.sound c.self.invariant.sources c.self.invariant.engine c.unmarked_drives_hold.ensures
