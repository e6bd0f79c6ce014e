use Rattle.std.proofs.Common.{◌≡◌, ℕ, ◌≤◌, ◌<◌, Some}
use Rattle.std.specs.Prelude.{slice_get}
use Rattle.av_space.specs.declared.ranked.Ranked.{Ranked}
use Rattle.av_space.specs.inner.Laying.{place_rank}
use Rattle.av_space.proofs.ranked.run_end.Given as goal

abbrev pub invariant-loop-k : goal.invariant-loop-k
invariant-loop-k l = (j : ℕ) (a b : Ranked) → l.start ≤ j → j < l.k → slice_get l.ranked l.start ≡ Some a → slice_get l.ranked j ≡ Some b → place_rank b ≡ place_rank a
