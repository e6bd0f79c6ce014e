-- Which lines spell a stimulus, and what is wrong with lines that spell none. The lines stand without what ends
-- them. The format is this project's own.
use Rattle.std.specs.Prelude.{◌≡◌, ◌≢◌, ◌⊎◌, ◌↔◌, ℕ, ◌+◌, ◌^◌, ◌<◌, ◌≤◌, List, [], ◌∷◌, codes, slice_get, Some, Result, Ok, Err, All, AllPairs, Contains}
use Rattle.av_base.specs.Words.{IsWord}
use Rattle.av_base.specs.Tokens.{IsDigits, number_of}
use Rattle.av_net.specs.declared.netlist.Port.{Port}
use Rattle.av_net.specs.Lexemes.{IsName}
use Rattle.av_net.specs.Names.{names_of}
use Rattle.av_data.specs.declared.stimulus.Given.{Given}
use Rattle.av_data.specs.declared.stimulus.Stimulus.{Stimulus}
use Rattle.av_data.specs.declared.fault.DataFault.{DataFault}
use Rattle.av_data.specs.declared.fault.DataFault.TheVariants.{DataSyntax, DataUnknown, DataOutside, DataTwice, DataMissing, Memory}
use Rattle.av_data.specs.Lines.{data_lines, parts_of}

-- ---- the forms of a line

-- `cycles N`, with at most 4096 cycles
pub record IsCycles (line : List ℕ) (n : ℕ) : Type 0 where
  pub digits : List ℕ
  pub parts : parts_of line ≡ codes "cycles" ∷ digits ∷ []
  pub spelled : IsDigits digits
  pub value : number_of digits ≡ n
  pub most : n ≤ 4096

-- `at CYCLE PORT VALUE`
pub record IsAt (line : List ℕ) (cycle : ℕ) (port : List ℕ) (value : ℕ) : Type 0 where
  pub cycle_digits : List ℕ
  pub value_digits : List ℕ
  pub parts : parts_of line ≡ codes "at" ∷ cycle_digits ∷ port ∷ value_digits ∷ []
  pub cycle_spelled : IsDigits cycle_digits
  pub named : IsName port
  pub value_spelled : IsDigits value_digits
  pub cycle_is : number_of cycle_digits ≡ cycle
  pub value_is : number_of value_digits ≡ value

-- ---- what a line gives

-- of the input ports and n cycles, the line gives this port this value in this cycle
pub record Gives (inputs : List Port) (n : ℕ) (line : List ℕ) (given : Given) : Type 0 where
  pub port : Port
  pub declared : slice_get inputs given.port ≡ Some port
  pub said : IsAt line given.cycle port.name given.value
  pub within : given.cycle < n
  pub fits : IsWord port.width.bits given.value

-- the same port in the same cycle
abbrev pub IsSame : Given → Given → Type 0
IsSame g h = (g.cycle ≡ h.cycle) × (g.port ≡ h.port)

-- after lines that gave `earlier`, these lines give the rest of `given`, each one for a port and a cycle that had none
pub data AreGiven (inputs : List Port) (n : ℕ) : List Given → List (List ℕ) → List Given → Type 0 where
  no_line : {given : List Given} → AreGiven inputs n given [] given
  empty_line : {earlier given : List Given} {line : List ℕ} {lines : List (List ℕ)} → parts_of line ≡ [] → AreGiven inputs n earlier lines given
      → AreGiven inputs n earlier (line ∷ lines) given
  value_line : {earlier given : List Given} {line : List ℕ} {lines : List (List ℕ)} {g : Given} → Gives inputs n line g → All (λ h. IsSame g h → ⊥) earlier
      → AreGiven inputs n (g ∷ earlier) lines given → AreGiven inputs n earlier (line ∷ lines) given

-- the lines say how many cycles there are, and then give these values
pub data AreSaid (inputs : List Port) (n : ℕ) (given : List Given) : List (List ℕ) → Type 0 where
  empty_first : {line : List ℕ} {lines : List (List ℕ)} → parts_of line ≡ [] → AreSaid inputs n given lines → AreSaid inputs n given (line ∷ lines)
  cycles_first : {line : List ℕ} {lines : List (List ℕ)} → IsCycles line n → AreGiven inputs n [] lines given → AreSaid inputs n given (line ∷ lines)

-- in an earlier cycle, or in the same one at an earlier port
abbrev pub IsBefore : Given → Given → Type 0
IsBefore g h = (g.cycle < h.cycle) ⊎ ((g.cycle ≡ h.cycle) × (g.port < h.port))

-- the bytes spell this stimulus: its values are those that the lines give, in ascending order
pub record SpellsStimulus (inputs : List Port) (bytes : List ℕ) (stimulus : Stimulus) : Type 0 where
  pub given : List Given
  pub said : AreSaid inputs stimulus.cycles given (data_lines bytes)
  pub ascending : AllPairs IsBefore stimulus.values
  pub same : (g : Given) → Contains given g ↔ Contains stimulus.values g

-- ---- faults

-- the cycle is not one of n, or the value does not fit the port
abbrev pub IsOutside : ℕ → Port → ℕ → ℕ → Type 0
IsOutside n port cycle value = (n ≤ cycle) ⊎ (2 ^ port.width.bits ≤ value)

-- the line names no input port
pub record NamesNone (inputs : List Port) (line : List ℕ) : Type 0 where
  pub cycle : ℕ
  pub name : List ℕ
  pub value : ℕ
  pub said : IsAt line cycle name value
  pub unknown : Contains (names_of inputs) name → ⊥

-- the line names an input port, with a cycle or a value that is outside
pub record IsOutOf (inputs : List Port) (n : ℕ) (line : List ℕ) : Type 0 where
  pub cycle : ℕ
  pub value : ℕ
  pub port : Port
  pub declared : Contains inputs port
  pub said : IsAt line cycle port.name value
  pub outside : IsOutside n port cycle value

-- the line gives what one of the earlier values is given for
pub record GivesAgain (inputs : List Port) (n : ℕ) (earlier : List Given) (line : List ℕ) : Type 0 where
  pub given : Given
  pub before : Given
  pub gives : Gives inputs n line given
  pub earlier_one : Contains earlier before
  pub same : IsSame given before

-- the fault of line number k, after a `cycles` line and lines that gave `earlier`
abbrev pub IsLineFault : List Port → ℕ → List Given → ℕ → List ℕ → DataFault → Type 0
IsLineFault inputs n earlier k line (DataSyntax l) = (l ≡ k) × (parts_of line ≢ []) × ((cycle : ℕ) (name : List ℕ) (value : ℕ) → IsAt line cycle name value → ⊥)
IsLineFault inputs n earlier k line (DataUnknown l) = (l ≡ k) × NamesNone inputs line
IsLineFault inputs n earlier k line (DataOutside l) = (l ≡ k) × IsOutOf inputs n line
IsLineFault inputs n earlier k line (DataTwice l) = (l ≡ k) × GivesAgain inputs n earlier line
IsLineFault inputs n earlier k line (DataMissing name point) = ⊥
IsLineFault inputs n earlier k line Memory = ⊥

-- after a `cycles` line and lines that gave `earlier`, this is the fault of the first faulty line of those from number k on
pub data IsLaterFault (inputs : List Port) (n : ℕ) (fault : DataFault) : List Given → ℕ → List (List ℕ) → Type 0 where
  here : {earlier : List Given} {k : ℕ} {line : List ℕ} {lines : List (List ℕ)} → IsLineFault inputs n earlier k line fault → IsLaterFault inputs n fault earlier k (line ∷ lines)
  past_empty : {earlier : List Given} {k : ℕ} {line : List ℕ} {lines : List (List ℕ)} → parts_of line ≡ [] → IsLaterFault inputs n fault earlier (k + 1) lines
      → IsLaterFault inputs n fault earlier k (line ∷ lines)
  past_value : {earlier : List Given} {k : ℕ} {line : List ℕ} {lines : List (List ℕ)} {g : Given} → Gives inputs n line g → All (λ h. IsSame g h → ⊥) earlier
      → IsLaterFault inputs n fault (g ∷ earlier) (k + 1) lines → IsLaterFault inputs n fault earlier k (line ∷ lines)

-- this is the fault of the first faulty line of those from number k on; where no line says how many cycles there are, it is
-- one of the line after the last
pub data IsFirstFault (inputs : List Port) : ℕ → List (List ℕ) → DataFault → Type 0 where
  no_cycles : {k : ℕ} → IsFirstFault inputs k [] (DataSyntax k)
  other_first : {k : ℕ} {line : List ℕ} {lines : List (List ℕ)} → parts_of line ≢ [] → ((n : ℕ) → IsCycles line n → ⊥) → IsFirstFault inputs k (line ∷ lines) (DataSyntax k)
  past_empty_first : {k : ℕ} {line : List ℕ} {lines : List (List ℕ)} {fault : DataFault} → parts_of line ≡ [] → IsFirstFault inputs (k + 1) lines fault
      → IsFirstFault inputs k (line ∷ lines) fault
  past_cycles : {k n : ℕ} {line : List ℕ} {lines : List (List ℕ)} {fault : DataFault} → IsCycles line n → IsLaterFault inputs n fault [] (k + 1) lines
      → IsFirstFault inputs k (line ∷ lines) fault

-- the first fault of the bytes, whose first line has this number
abbrev pub IsStimulusFault : List Port → ℕ → List ℕ → DataFault → Type 0
IsStimulusFault inputs first bytes fault = IsFirstFault inputs first (data_lines bytes) fault

-- ---- answers

-- the answer is this stimulus, or out of memory
abbrev pub GivesStimulus : Result Stimulus DataFault → Stimulus → Type 0
GivesStimulus (Ok s) wanted = s ≡ wanted
GivesStimulus (Err Memory) wanted = Unit {0}
GivesStimulus (Err (DataSyntax l)) wanted = ⊥
GivesStimulus (Err (DataUnknown l)) wanted = ⊥
GivesStimulus (Err (DataOutside l)) wanted = ⊥
GivesStimulus (Err (DataTwice l)) wanted = ⊥
GivesStimulus (Err (DataMissing name point)) wanted = ⊥

-- the answer is this fault, or out of memory
abbrev pub GivesFault : Result Stimulus DataFault → DataFault → Type 0
GivesFault (Err Memory) wanted = Unit {0}
GivesFault (Err fault) wanted = fault ≡ wanted
GivesFault (Ok s) wanted = ⊥
