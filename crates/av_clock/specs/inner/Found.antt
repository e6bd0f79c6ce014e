-- Declarations found by name.
use Rattle.std.specs.Prelude.{◌≡◌, ℕ, ◌<◌, List, length, slice_index_or, Option, Some, None, Contains}
use Rattle.av_net.specs.declared.netlist.Port.{Port}
use Rattle.av_net.specs.Names.{names_of}
use Rattle.av_clock.specs.declared.resolver.Declared.{Declared}

-- each of these declarations is found by its name, with its place among them and its width, and nothing by another name
pub record Finds (find : List ℕ → Option Declared) (ports : List Port) : Type 0 where
  pub each : (k : ℕ) (d : Port) → k < length ports → find (slice_index_or ports k d).name ≡ Some (record { place = k; width = (slice_index_or ports k d).width })
  pub others : (name : List ℕ) → (Contains (names_of ports) name → ⊥) → find name ≡ None
