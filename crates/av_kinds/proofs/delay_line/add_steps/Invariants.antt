use Rattle.std.proofs.Common.{◌≡◌, ◌++◌, map}
use Rattle.std.specs.List.{range_with_len}
use Rattle.av_kinds.specs.inner.Numbered.{step_in}
use Rattle.av_kinds.proofs.delay_line.add_steps.Given as goal

abbrev pub invariant-loop-delay : goal.invariant-loop-delay
invariant-loop-delay l = l.steps ≡ l.initial.steps ++ map (step_in l.names) (range_with_len 0 l.delay)
