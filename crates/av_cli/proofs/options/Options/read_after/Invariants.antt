use Rattle.std.proofs.Common.{◌≤◌, ◌↔◌, ◌-◌, length, drop}
use Rattle.av_cli.specs.Commands.{Options, Say}
use Rattle.av_cli.specs.inner.CommandsSeen.{seen}
use Rattle.av_cli.proofs.options.Options.read_after.Given as goal

abbrev pub invariant-loop-at : goal.invariant-loop-at
invariant-loop-at l = (l.at ≤ length l.words) × ((p : Options) → Say (seen l.fn.self) (drop l.fn.from l.words) p ↔ Say (seen l.options) (drop l.at l.words) p)

abbrev pub decreases-loop-at : goal.decreases-loop-at
decreases-loop-at l = length l.words - l.at
