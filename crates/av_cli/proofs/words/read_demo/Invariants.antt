use Rattle.std.proofs.Common.{ℕ, ◌≤◌, ◌<◌}
use Rattle.av_cli.specs.inner.DemoWords.{IsDemoAt}
use Rattle.av_cli.proofs.words.read_demo.Given as goal

abbrev pub invariant-loop-at : goal.invariant-loop-at
invariant-loop-at l = (at bits box k : ℕ) → 1 ≤ at → at < l.at → IsDemoAt l.words at bits box k → ⊥
