-- A wave in the making.
use Rattle.std.specs.Prelude.{◌≡◌, ◌≢◌, ◌⊎◌, ℕ, ◌+◌, ◌<◌, ◌≤◌, List, [], ◌∷◌, ◌++◌, length, slice_index, slice_get, Some, All, AllPairs}
use Rattle.std.specs.List.{AllByRecursion, range_with_len}
use Rattle.av_base.specs.Words.{IsWord}
use Rattle.av_net.specs.declared.netlist.Port.{Port}
use Rattle.av_net.specs.Lexemes.{IsName}
use Rattle.av_net.specs.Names.{names_of, AreDistinct}
use Rattle.av_wave.specs.declared.wave.Change.{Change}
use Rattle.av_wave.specs.Waves.{Recording, Values, zeros, all_changed, changes_in, ports_of, IsBefore, IsOf, AreNews}

-- the changes in earlier cycles, and those in this one of the ports that have been told of
pub record Part : Type 0 where
  pub name : List ℕ
  pub ports : List Port
  pub cycle : ℕ
  pub told : ℕ
  pub changes : List Change

-- the values that the ports have by now
abbrev pub values_now : Part → Values
values_now p = all_changed zeros p.changes

-- before anything is told
abbrev pub at_first : List ℕ → List Port → Part
at_first name ports = record { name = name; ports = ports; cycle = 0; told = 0; changes = [] }

-- with one change more
abbrev pub told_of : Part → Change → Part
told_of p g = record { name = p.name; ports = p.ports; cycle = p.cycle; told = g.port + 1; changes = p.changes ++ g ∷ [] }

-- at the next cycle
abbrev pub next_cycle : Part → Part
next_cycle p = record { name = p.name; ports = p.ports; cycle = p.cycle + 1; told = 0; changes = p.changes }

-- the wave of the cycles before this one
abbrev pub wave_of : Part → Recording
wave_of p = record { name = p.name; ports = p.ports; cycles = p.cycle; changes = p.changes }

-- in the first cycle the ports are told of one after another, and later those that change, in order
pub record IsNext (p : Part) (port value : ℕ) : Type 0 where
  pub most : p.cycle < 4096
  pub first : p.cycle ≡ 0 → port ≡ p.told
  pub order : 0 < p.cycle → p.told ≤ port
  pub news : 0 < p.cycle → value ≢ values_now p port

-- a port of these, and a value that fits it
pub record FitsPort (ports : List Port) (number value : ℕ) : Type 0 where
  pub port : Port
  pub at : slice_get ports number ≡ Some port
  pub fits : IsWord port.width.bits value

-- another cycle may come
pub record MayEnd (p : Part) : Type 0 where
  pub most : p.cycle < 4096
  pub whole : p.cycle ≡ 0 → p.told ≡ length p.ports

-- in an earlier cycle, or of a port that has been told of
abbrev pub IsPast : Part → Change → Type 0
IsPast p g = (g.cycle < p.cycle) ⊎ ((g.cycle ≡ p.cycle) × (g.port < p.told))

pub record IsPart (p : Part) : Type 0 where
  pub named : IsName p.name
  pub ports_named : All IsName (names_of p.ports)
  pub apart : AreDistinct (names_of p.ports)
  pub most : p.cycle ≤ 4096
  pub room : 0 < p.told → p.cycle < 4096
  pub told : p.told ≤ length p.ports
  pub changes : All (IsOf p.ports (p.cycle + 1)) p.changes
  pub past : All (IsPast p) p.changes
  pub ascending : AllPairs IsBefore p.changes
  pub first : p.cycle ≡ 0 → ports_of (changes_in 0 p.changes) ≡ range_with_len 0 p.told
  pub later : 0 < p.cycle → ports_of (changes_in 0 p.changes) ≡ range_with_len 0 (length p.ports)
  pub news : AreNews zeros p.changes

-- the words are the values that the ports have by now
pub record HasWords (p : Part) (words : List ℕ) : Type 0 where
  pub count : length words ≡ length p.ports
  pub each : (k : ℕ) → k < length p.ports → slice_index words k ≡ values_now p k

-- a port was told of, and has this value
pub record IsTold (p : Part) (port word : ℕ) (q : Part) : Type 0 where
  pub name : q.name ≡ p.name
  pub ports : q.ports ≡ p.ports
  pub cycle : q.cycle ≡ p.cycle
  pub first : p.cycle ≡ 0 → q.told ≡ port + 1
  pub later : q.told ≤ port + 1
  pub more : List Change
  pub changes : q.changes ≡ p.changes ++ more
  pub here : AllByRecursion (λ g. g.cycle ≡ p.cycle) more
  pub value : values_now q port ≡ word
  pub others : (k : ℕ) → k ≢ port → values_now q k ≡ values_now p k

-- the first n ports were told of, and have these words
pub record AreTold (p : Part) (n : ℕ) (words : List ℕ) (q : Part) : Type 0 where
  pub name : q.name ≡ p.name
  pub ports : q.ports ≡ p.ports
  pub cycle : q.cycle ≡ p.cycle
  pub first : p.cycle ≡ 0 → q.told ≡ n
  pub later : q.told ≤ n
  pub more : List Change
  pub changes : q.changes ≡ p.changes ++ more
  pub here : AllByRecursion (λ g. g.cycle ≡ p.cycle) more
  pub values : (k : ℕ) → k < n → values_now q k ≡ slice_index words k

-- all ports were told of, and the next cycle begins
pub record Records (p : Part) (words : List ℕ) (q : Part) : Type 0 where
  pub name : q.name ≡ p.name
  pub ports : q.ports ≡ p.ports
  pub cycle : q.cycle ≡ p.cycle + 1
  pub told : q.told ≡ 0
  pub more : List Change
  pub changes : q.changes ≡ p.changes ++ more
  pub here : AllByRecursion (λ g. g.cycle ≡ p.cycle) more
  pub values : (k : ℕ) → k < length p.ports → values_now q k ≡ slice_index words k
