-- A clock as it is seen.
use Rattle.std.specs.Prelude.{ℕ, Bool, List}
use Rattle.av_net.specs.declared.netlist.Module.{Module}
use Rattle.av_net.specs.Meaning.{Words}
use Rattle.av_clock.specs.Named.{named}

-- its module, the words of all names in the order of declarations (input ports, registers, outputs and
-- wires), whether it is settled, how many drives were computed, and which drives are marked: those
-- that the next settle computes, and those that it marks on
pub record Seen : Type 0 where
  pub of : Module
  pub words : List ℕ
  pub settled : Bool
  pub work : ℕ
  pub marked : List Bool

-- the words by name
abbrev pub carried : Seen → Words
carried s = named s.of s.words
