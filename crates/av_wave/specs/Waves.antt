-- Waves: the values of a module's ports in a run, told by their changes.
use Rattle.std.specs.Prelude.{◌≡◌, ◌≢◌, ◌⊎◌, ℕ, ◌<◌, ◌≤◌, nat_eq, nat_le, if◌then◌else◌, List, [], ◌∷◌, length, map, filter, slice_get, Some, All, AllPairs}
use Rattle.std.specs.List.{range_with_len}
use Rattle.av_base.specs.Words.{IsWord}
use Rattle.av_net.specs.declared.netlist.Port.{Port}
use Rattle.av_net.specs.Lexemes.{IsName}
use Rattle.av_net.specs.Names.{names_of, AreDistinct}
use Rattle.av_wave.specs.declared.wave.Change.{Change}

-- a wave as it is seen: the name of a module, its ports, the number of cycles, and the changes of the ports' values
pub record Recording : Type 0 where
  pub name : List ℕ
  pub ports : List Port
  pub cycles : ℕ
  pub changes : List Change

-- ---- values

-- the value that each port has, by its place
abbrev pub Values : Type 0
Values = ℕ → ℕ

-- the values once a change has been made
abbrev pub changed : Values → Change → Values
changed values g = λ port. if nat_eq g.port port then g.value else values port

-- once all of these changes have been made, one after another
abbrev pub all_changed : Values → List Change → Values
all_changed values [] = values
all_changed values (g ∷ changes) = all_changed (changed values g) changes

-- before any change
abbrev pub zeros : Values
zeros = λ port. 0

-- the changes of a cycle
abbrev pub changes_in : ℕ → List Change → List Change
changes_in cycle changes = filter (λ g. nat_eq g.cycle cycle) changes

-- the changes up to a cycle
abbrev pub changes_to : ℕ → List Change → List Change
changes_to cycle changes = filter (λ g. nat_le g.cycle cycle) changes

-- the value of each port in a cycle
abbrev pub values_in : List Change → ℕ → Values
values_in changes cycle = all_changed zeros (changes_to cycle changes)

-- ---- waves

-- in an earlier cycle, or in the same one at an earlier port
abbrev pub IsBefore : Change → Change → Type 0
IsBefore g h = (g.cycle < h.cycle) ⊎ ((g.cycle ≡ h.cycle) × (g.port < h.port))

-- a change of one of the ports, in one of the cycles, to a word of the port's width
pub record IsOf (ports : List Port) (cycles : ℕ) (g : Change) : Type 0 where
  pub port : Port
  pub at : slice_get ports g.port ≡ Some port
  pub fits : IsWord port.width.bits g.value
  pub within : g.cycle < cycles

-- where the ports had these values, each change after the first cycle is to another value than its port had before
abbrev pub AreNews : Values → List Change → Type 0
AreNews values [] = Unit {0}
AreNews values (g ∷ changes) = (0 < g.cycle → g.value ≢ values g.port) × AreNews (changed values g) changes

-- the places of the ports that change
abbrev pub ports_of : List Change → List ℕ
ports_of changes = map (λ g. g.port) changes

pub record IsWave (w : Recording) : Type 0 where
  pub most : w.cycles ≤ 4096
  pub named : IsName w.name
  pub ports_named : All IsName (names_of w.ports)
  pub apart : AreDistinct (names_of w.ports)
  pub changes : All (IsOf w.ports w.cycles) w.changes
  pub ascending : AllPairs IsBefore w.changes
  -- where there is a cycle, the changes of the first one are one for each port
  pub first : 0 < w.cycles → ports_of (changes_in 0 w.changes) ≡ range_with_len 0 (length w.ports)
  pub news : AreNews zeros w.changes
