-- The changes of a wave, made cycle by cycle.
use Rattle.std.specs.Prelude.{◌≡◌, ℕ, ◌<◌, ◌≤◌, List, map, slice_get, Some}
use Rattle.std.specs.List.{range_with_len}
use Rattle.av_wave.specs.declared.wave.Change.{Change}
use Rattle.av_wave.specs.Waves.{zeros, all_changed}

-- the values of n ports once these changes have been made
abbrev pub values_of : ℕ → List Change → List ℕ
values_of n changes = map (all_changed zeros changes) (range_with_len 0 n)

-- from one place to another the changes are in this cycle, and the next is not
pub record AreMade (changes : List Change) (first cycle next : ℕ) : Type 0 where
  pub onward : first ≤ next
  pub here : (k : ℕ) (g : Change) → first ≤ k → k < next → slice_get changes k ≡ Some g → g.cycle ≡ cycle
  pub ends : (g : Change) → slice_get changes next ≡ Some g → g.cycle ≡ cycle → ⊥
