-- The ports of an interface, and how many of each letter there are.
use Rattle.std.specs.Prelude.{◌≡◌, ℕ, ◌+◌, ◌≤◌, List, [], ◌∷◌, ◌++◌, length, Option, Some, None}
use Rattle.av_net.specs.declared.netlist.Port.{Port}
use Rattle.av_kinds.specs.declared.interface.Interface.{Interface}
use Rattle.av_kinds.specs.Counters.{counter_width}
use Rattle.av_kinds.specs.Tops.{port}
use Rattle.av_kinds.specs.inner.Interfaces.{PortCounts}
use Rattle.av_kinds.specs.inner.Kinds.{no_ports}

abbrev pub counts_of : Interface → PortCounts
counts_of own = record { inputs = own.inputs; taps = own.taps; bounds = own.bounds }

-- no more are numbered than there are ports
abbrev pub AreFew : Interface → Type 0
AreFew own = own.inputs + own.taps + own.bounds ≤ length own.ports

-- these ports were added, and so many of each letter are there now
pub record AddsPorts (old new : Interface) (ports : List Port) (now : PortCounts) : Type 0 where
  pub ports_are : new.ports ≡ old.ports ++ ports
  pub counts_are : counts_of new ≡ now
  pub few : AreFew new

-- the port of the counter, where there is one
abbrev pub opened : Option (List ℕ) → List Port
opened None = []
opened (Some name) = port counter_width name ∷ []

pub record IsOpened (counter : Option (List ℕ)) (own : Interface) : Type 0 where
  pub ports_are : own.ports ≡ opened counter
  pub counts_are : counts_of own ≡ no_ports
  pub few : AreFew own
