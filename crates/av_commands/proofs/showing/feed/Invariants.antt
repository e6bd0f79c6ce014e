use Rattle.av_commands.specs.inner.Feeding.{AreOfLines}
use Rattle.av_commands.proofs.showing.feed.Given as goal

abbrev pub invariant-loop-line : goal.invariant-loop-line
invariant-loop-line g l = AreOfLines l.design (g.D.Data.words l.values) l.line-index l.timeline
