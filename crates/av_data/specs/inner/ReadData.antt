-- Reading data line by line.
use Rattle.std.specs.Prelude.{◌≡◌, ℕ, ◌↔◌, IsTrue, List, map, Any, All, AllPairs, Some, None, IsSome, Result, Ok, Err, slice_get, ◌≢◌, ◌≤◌, ◌<◌}
use Rattle.av_affine.specs.Forms.{IsWithinLimits}
use Rattle.av_poly.specs.Points.{Has}
use Rattle.av_tree.specs.Points.{Point}
use Rattle.av_tree.specs.Trees.{Text}
use Rattle.av_flat.specs.Trees.{Variable, FlatSystem}
use Rattle.av_flat.specs.Order.{IsBefore}
use Rattle.av_flat.specs.Sets.{IsBounded}
use Rattle.av_flat.specs.Signatures.{is_input}
use Rattle.av_data.specs.declared.fault.DataFault.{DataFault}
use Rattle.av_data.specs.declared.fault.DataFault.TheVariants.{DataSyntax, DataUnknown, DataOutside, DataTwice, DataMissing, Memory}
use Rattle.av_data.specs.Lines.{data_lines, parts_of}
use Rattle.av_data.specs.Inputs.{InputWords, word_among, words_of}
use Rattle.av_data.specs.Data.{filled, is_filled_by, Gives, AreSound, SpellsInputs, IsLineFault, IsFirstFault, IsInputFault}

-- what is needed of a system: names that differ, and domains within limits
pub record IsReadable (s : FlatSystem) : Type 0 where
  pub names : AllPairs (λ a b. a.name ≢ b.name) s.variables
  pub indices : All (λ v. v.domain.dim ≤ 4) s.variables
  pub rows : All (λ v. All IsWithinLimits v.domain.rows) s.variables
  pub bounded : All (λ v. IsBounded v.domain) s.variables

abbrev pub names_in : FlatSystem → List Text
names_in s = map (λ v. v.name) s.variables

-- the variable at this place is an input of this name
pub record IsInputAt (s : FlatSystem) (name : Text) (place : ℕ) (v : Variable) : Type 0 where
  pub there : slice_get s.variables place ≡ Some v
  pub is_input_one : IsTrue (is_input v.kind)
  pub named : v.name ≡ name

-- these words are what sound lines give
pub record HasRead (s : FlatSystem) (lines : List (List ℕ)) (words : List ((ℕ × Point) × ℕ)) : Type 0 where
  pub sound : AreSound s (filled lines)
  pub given : (name : Text) (z : Point) (w : ℕ) → (words_of (record { names = names_in s; words = words }) name z ≡ Some w) ↔ Any (Gives s name z w) (filled lines)

-- the bytes, of which the first line has this number, have this fault, which no missing point is
abbrev pub IsRefused : FlatSystem → ℕ → List ℕ → DataFault → Type 0
IsRefused s first bytes Memory = Unit {0}
IsRefused s first bytes fault = IsFirstFault s first (data_lines bytes) fault

-- why line number k, behind these lines, is refused
abbrev pub IsCause : FlatSystem → List (List ℕ) → ℕ → List ℕ → DataFault → Type 0
IsCause s lines k line Memory = Unit {0}
IsCause s lines k line fault = IsTrue (is_filled_by (parts_of line)) × IsLineFault s (filled lines) k line fault

-- each declared point of an input before this place has a word
abbrev pub AreWhole : FlatSystem → List ((ℕ × Point) × ℕ) → ℕ → Type 0
AreWhole s words count = (place : ℕ) (v : Variable) (z : Point) → place < count → slice_get s.variables place ≡ Some v → IsTrue (is_input v.kind) → Has v.domain z → IsSome (word_among words place z)

-- the first declared point of an input without a word, by its place
pub record IsMissingAt (s : FlatSystem) (words : List ((ℕ × Point) × ℕ)) (place : ℕ) (z : Point) : Type 0 where
  pub variable : Variable
  pub there : slice_get s.variables place ≡ Some variable
  pub is_input_one : IsTrue (is_input variable.kind)
  pub has : Has variable.domain z
  pub none : word_among words place z ≡ None
  pub least : (y : Point) → Has variable.domain y → IsBefore y z → IsSome (word_among words place y)
  pub before : AreWhole s words place

-- what is answered of the bytes, of which the first line has this number
abbrev pub IsOutcome : FlatSystem → ℕ → List ℕ → Result InputWords DataFault → Type 0
IsOutcome s first bytes (Ok inputs) = SpellsInputs s bytes (words_of inputs)
IsOutcome s first bytes (Err Memory) = Unit {0}
IsOutcome s first bytes (Err (DataSyntax l)) = IsInputFault s first bytes (DataSyntax l)
IsOutcome s first bytes (Err (DataUnknown l)) = IsInputFault s first bytes (DataUnknown l)
IsOutcome s first bytes (Err (DataOutside l)) = IsInputFault s first bytes (DataOutside l)
IsOutcome s first bytes (Err (DataTwice l)) = IsInputFault s first bytes (DataTwice l)
IsOutcome s first bytes (Err (DataMissing name point)) = IsInputFault s first bytes (DataMissing name point)

-- the fault is that of this point of the variable at this place, or out of memory
abbrev pub TellsMissing : FlatSystem → ℕ → Point → DataFault → Type 0
TellsMissing s place z Memory = Unit {0}
TellsMissing s place z (DataMissing name point) = (v : Variable) × (slice_get s.variables place ≡ Some v) × (v.name ≡ name) × (point ≡ z)
TellsMissing s place z (DataSyntax l) = ⊥
TellsMissing s place z (DataUnknown l) = ⊥
TellsMissing s place z (DataOutside l) = ⊥
TellsMissing s place z (DataTwice l) = ⊥
