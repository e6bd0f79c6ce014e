use Rattle.std.proofs.Common.{◌<◌, ◌≤◌, take, All}
use Rattle.av_commands.proofs.showing.cycles_of.Given as goal

abbrev pub invariant-loop-line : goal.invariant-loop-line
invariant-loop-line l = All (λ line. line.cycle < l.cycles) (take l.line-index l.lines) × (l.cycles ≤ 4096)
