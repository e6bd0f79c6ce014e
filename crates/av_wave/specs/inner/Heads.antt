-- The head of a dump.
use Rattle.std.specs.Prelude.{ℕ, List, All}
use Rattle.av_net.specs.declared.netlist.Port.{Port}
use Rattle.av_net.specs.Lexemes.{IsName}
use Rattle.av_net.specs.Names.{names_of, AreDistinct}

-- the name of the module, and the ports that are declared so far
pub record Head : Type 0 where
  pub name : List ℕ
  pub ports : List Port

pub record IsHead (head : Head) : Type 0 where
  pub named : IsName head.name
  pub ports_named : All IsName (names_of head.ports)
  pub apart : AreDistinct (names_of head.ports)
