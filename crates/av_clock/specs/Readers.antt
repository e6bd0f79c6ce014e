-- Lists of the drives and the steps that read each place.
use Rattle.std.specs.Prelude.{◌≡◌, ◌≢◌, ◌⊎◌, ℕ, ◌<◌, List, [], ◌++◌, length, take, slice_index_or, slice_get, Some, Contains}
use Rattle.av_net.specs.declared.operation.Operand.{Operand}
use Rattle.av_net.specs.declared.operation.Operand.TheVariants.{Name, Literal}
use Rattle.av_net.specs.declared.netlist.Drive.{Drive}
use Rattle.av_net.specs.declared.netlist.Step.{Step}
use Rattle.av_net.specs.declared.netlist.Module.{Module}
use Rattle.av_net.specs.Meaning.{EachOperand}
use Rattle.av_net.specs.Names.{IsAmong, given_names, all_names, targets_of}

-- an operand that does not name this
abbrev pub IsOther : List ℕ → Operand → Type 0
IsOther name (Name other) = other ≢ name
IsOther name (Literal width value) = Unit {0}

-- the list of a place
abbrev pub at_place : List (List ℕ) → ℕ → List ℕ
at_place lists place = slice_index_or lists place []

-- a reader is entered at the places of the names that it reads, and nowhere else: it has a fact of each operand where its operands
-- have it
pub record IsEntered (names : List (List ℕ)) (each : (Operand → Type 0) → Type 0) (reader : ℕ) (before after : List (List ℕ)) : Type 0 where
  pub count : length after ≡ length before
  pub kept : (place k : ℕ) → Contains (at_place before place) k → Contains (at_place after place) k
  pub entered : (place : ℕ) (name : List ℕ) → slice_get names place ≡ Some name → Contains (at_place after place) reader ⊎ each (IsOther name)
  pub only : (known : List (List ℕ)) → each (IsAmong known) → (place k : ℕ) (name : List ℕ) → slice_get names place ≡ Some name → Contains (at_place after place) k
      → Contains (at_place before place) k ⊎ ((k ≡ reader) × Contains known name)

-- the lists have the first n drives, each at the places that it reads
pub record HaveDrives (m : Module) (n : ℕ) (lists : List (List ℕ)) : Type 0 where
  pub count : length lists ≡ length (all_names m)
  pub entered : (k place : ℕ) (name : List ℕ) (d : Drive) → k < n → slice_get (all_names m) place ≡ Some name
      → Contains (at_place lists place) k ⊎ EachOperand (IsOther name) (slice_index_or m.drives k d).operation
  -- and a drive reads only what is known before it
  pub only : (place k : ℕ) (name : List ℕ) → slice_get (all_names m) place ≡ Some name → Contains (at_place lists place) k
      → (k < n) × Contains (given_names m ++ targets_of (take k m.drives)) name
  -- and only what reads a place is entered there
  pub reads : (place k : ℕ) (name : List ℕ) (d : Drive) → slice_get (all_names m) place ≡ Some name → Contains (at_place lists place) k
      → EachOperand (IsOther name) (slice_index_or m.drives k d).operation → ⊥

-- the lists have the first n steps, each at the places that it reads
pub record HaveSteps (m : Module) (n : ℕ) (lists : List (List ℕ)) : Type 0 where
  pub count : length lists ≡ length (all_names m)
  pub entered : (k place : ℕ) (name : List ℕ) (d : Step) → k < n → slice_get (all_names m) place ≡ Some name
      → Contains (at_place lists place) k ⊎ IsOther name (slice_index_or m.steps k d).next
  pub only : (place k : ℕ) (name : List ℕ) → slice_get (all_names m) place ≡ Some name → Contains (at_place lists place) k → k < n
