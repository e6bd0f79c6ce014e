use Rattle.std.proofs.Common.{◌≡◌, ℕ, ◌<◌, length, slice_index}
use Rattle.av_clock.proofs.merged.own_sources.Given as goal

abbrev pub invariant-loop-place : goal.invariant-loop-place
invariant-loop-place l = (length l.sources.items ≡ l.place) × ((place : ℕ) → place < l.place → slice_index l.sources.items place ≡ place)
