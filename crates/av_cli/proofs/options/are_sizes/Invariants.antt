use Rattle.std.proofs.Common.{◌≤◌, ◌↔◌, ◌-◌, length, drop}
use Rattle.std.specs.List.{AllByRecursion}
use Rattle.av_commands.specs.SizeWords.{IsSize}
use Rattle.av_cli.proofs.options.are_sizes.Given as goal

abbrev pub invariant-loop-at : goal.invariant-loop-at
invariant-loop-at l = (l.at ≤ length l.words) × (AllByRecursion IsSize (drop l.fn.from l.words) ↔ AllByRecursion IsSize (drop l.at l.words))

abbrev pub decreases-loop-at : goal.decreases-loop-at
decreases-loop-at l = length l.words - l.at
