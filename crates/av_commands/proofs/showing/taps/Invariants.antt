use Rattle.av_commands.specs.inner.Watching.{AreTaps}
use Rattle.av_commands.proofs.showing.taps.Given as goal

abbrev pub invariant-loop-line : goal.invariant-loop-line
invariant-loop-line l = AreTaps l.of l.lines l.line-index l.taps
