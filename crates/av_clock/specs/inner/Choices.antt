-- The choice of a source: where the word of an assignment stands.
use Rattle.std.specs.Prelude.{◌≡◌, ◌⊎◌, ℕ, ◌<◌, ◌≤◌, List, length, slice_index_or}
use Rattle.av_clock.specs.declared.gate.Reading.TheVariants.{At}
use Rattle.av_clock.specs.declared.gate.Gate.TheVariants.{Buffer}
use Rattle.av_clock.specs.declared.gate.Assignment.{Assignment}
use Rattle.av_clock.specs.inner.Keys.{key_of}

-- one of the first assignments has this target, and the same key
pub record IsEqual (assignments : List Assignment) (assignment : Assignment) (source : ℕ) : Type 0 where
  pub first : ℕ
  pub within : first < length assignments
  pub target : source ≡ (slice_index_or assignments first assignment).target
  pub key : key_of (slice_index_or assignments first assignment) ≡ key_of assignment

-- an assignment's own target, the place that it copies, unless that is an input port, or the target of an assignment with its key
abbrev pub IsSource : ℕ → List Assignment → Assignment → ℕ → Type 0
IsSource inputs assignments assignment source =
    (source ≡ assignment.target) ⊎ (((assignment.gate ≡ Buffer (At source)) × (inputs ≤ source)) ⊎ IsEqual assignments assignment source)
