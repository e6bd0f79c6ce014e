-- How a dump is read line by line.
use Rattle.std.specs.Prelude.{◌≡◌, ◌≢◌, ◌⊎◌, ℕ, ◌+◌, ◌<◌, List, [], ◌∷◌, ◌++◌, length, slice_get, Some, Contains, Option, Result, IfOk, MatchOption}
use Rattle.av_base.specs.Words.{IsWord}
use Rattle.av_base.specs.declared.memory.Memory.{Memory}
use Rattle.av_net.specs.declared.netlist.Port.{Port}
use Rattle.av_net.specs.Lexemes.{IsName}
use Rattle.av_net.specs.Names.{names_of}
use Rattle.av_wave.specs.Dumps.{timescale_line, scope_line, port_line, upscope_line, definitions_line, time_line, value_line, binary, code}
use Rattle.av_wave.specs.declared.stage.Stage.{Stage}
use Rattle.av_wave.specs.declared.stage.Stage.TheVariants.{Timescale, Scope, Ports, Definitions, Start, Cycles}
use Rattle.av_wave.specs.inner.Heads.{Head}
use Rattle.av_wave.specs.inner.Parts.{Part, at_first, told_of, next_cycle, IsNext, MayEnd, wave_of}
use Rattle.av_wave.specs.Waves.{Recording}

-- the line declares one port more
pub record TakesPort (head : Head) (line : List ℕ) (next : Stage) : Type 0 where
  pub port : Port
  pub line_is : line ≡ port_line (length head.ports) port
  pub named : IsName port.name
  pub unknown : Contains (names_of head.ports) port.name → ⊥
  pub next_is : next ≡ Ports (record { name = head.name; ports = head.ports ++ port ∷ [] })

-- the line tells of this value of this port
pub record Says (ports : List Port) (line : List ℕ) (number value : ℕ) : Type 0 where
  pub port : Port
  pub at : slice_get ports number ≡ Some port
  pub fits : IsWord port.width.bits value
  pub line_is : line ≡ value_line port number value

-- the bit of a port of one bit, and its code
pub record SaysBit (ports : List Port) (text : List ℕ) (number value : ℕ) : Type 0 where
  pub port : Port
  pub at : slice_get ports number ≡ Some port
  pub single : port.width.bits ≡ 1
  pub fits : value < 2
  pub text_is : text ≡ binary value ++ code number

-- the value of a port of more bits, a blank and its code
pub record SaysVector (ports : List Port) (text : List ℕ) (number value : ℕ) : Type 0 where
  pub port : Port
  pub at : slice_get ports number ≡ Some port
  pub wide : port.width.bits ≢ 1
  pub fits : IsWord port.width.bits value
  pub text_is : text ≡ binary value ++ 32 ∷ code number

-- the line tells of a change
pub record TakesChange (part : Part) (line : List ℕ) (next : Stage) : Type 0 where
  pub number : ℕ
  pub value : ℕ
  pub says : Says part.ports line number value
  pub may : IsNext part number value
  pub next_is : next ≡ Cycles (told_of part (record { cycle = part.cycle; port = number; value = value }))

-- the line ends the cycle
pub record TakesTime (part : Part) (line : List ℕ) (next : Stage) : Type 0 where
  pub line_is : line ≡ time_line (part.cycle + 1)
  pub may : MayEnd part
  pub next_is : next ≡ Cycles (next_cycle part)

-- a line may stand here, and what comes of it
abbrev pub Takes : Stage → List ℕ → Stage → Type 0
Takes Timescale line next = (line ≡ timescale_line) × (next ≡ Scope)
Takes Scope line next = (name : List ℕ) × IsName name × (line ≡ scope_line name) × (next ≡ Ports (record { name = name; ports = [] }))
Takes (Ports head) line next = TakesPort head line next ⊎ ((line ≡ upscope_line) × (next ≡ Definitions head))
Takes (Definitions head) line next = (line ≡ definitions_line) × (next ≡ Start head)
Takes (Start head) line next = (line ≡ time_line 0) × (next ≡ Cycles (at_first head.name head.ports))
Takes (Cycles part) line next = TakesChange part line next ⊎ TakesTime part line next

-- the answer is what comes of the line, or none where it may not stand here, or out of memory
abbrev pub Turns : Stage → List ℕ → Result (Option Stage) Memory → Type 0
Turns stage line result = IfOk result (λ next. MatchOption next ((other : Stage) → Takes stage line other → ⊥) (Takes stage line))

-- the text may end here, and then it is that of the wave
abbrev pub EndsAs : Stage → Recording → Type 0
EndsAs Timescale wave = ⊥
EndsAs Scope wave = ⊥
EndsAs (Ports head) wave = ⊥
EndsAs (Definitions head) wave = ⊥
EndsAs (Start head) wave = ⊥
EndsAs (Cycles part) wave = (part.told ≡ 0) × (wave ≡ wave_of part)

-- where ports may be declared, these are the names of those so far
abbrev pub Knows : Stage → List (List ℕ) → Type 0
Knows Timescale names = names ≡ []
Knows Scope names = names ≡ []
Knows (Ports head) names = names ≡ names_of head.ports
Knows (Definitions head) names = Unit {0}
Knows (Start head) names = Unit {0}
Knows (Cycles part) names = Unit {0}
