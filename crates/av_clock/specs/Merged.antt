-- A module in which what gives the same word is computed once: operands are read at sources, and the drive of a name that is not its own source
-- gives 0.
use Rattle.std.specs.Prelude.{◌≡◌, ℕ, ◌<◌, ◌≤◌, List, [], ◌∷◌, ◌++◌, map, length, take, slice_index, slice_index_or, if◌then◌else◌, Contains}
use Rattle.std.specs.Str.{bytes_eq}
use Rattle.av_net.specs.declared.operation.Operand.{Operand}
use Rattle.av_net.specs.declared.operation.Operand.TheVariants.{Name, Literal}
use Rattle.av_net.specs.declared.operation.Operation.{Operation}
use Rattle.av_net.specs.declared.operation.Operation.TheVariants.{Plain, Binary, Signed, Choose, Part, Widen}
use Rattle.av_net.specs.declared.netlist.Port.{Port}
use Rattle.av_net.specs.declared.netlist.Drive.{Drive}
use Rattle.av_net.specs.declared.netlist.Step.{Step}
use Rattle.av_net.specs.declared.netlist.Module.{Module}
use Rattle.av_net.specs.Meaning.{result_of}
use Rattle.av_net.specs.Names.{names_of, given_names, all_names, targets_of, declarations, width_of}
use Rattle.av_net.specs.Settled.{Holds}
use Rattle.av_net.specs.Sound.{IsSound}
use Rattle.av_clock.specs.declared.merged.Merged.{Merged}
use Rattle.av_clock.specs.Named.{named, looked_up}
use Rattle.av_clock.specs.Gates.{AreAssigned, AreStepped}

-- the name at the source of a name's place
abbrev pub source_of : Module → List ℕ → List ℕ → List ℕ
source_of m sources name = slice_index_or (all_names m) (looked_up (all_names m) sources name) name

abbrev pub sourced : Module → List ℕ → Operand → Operand
sourced m sources (Name name) = Name (source_of m sources name)
sourced m sources (Literal width value) = Literal width value

abbrev pub sourced_operation : Module → List ℕ → Operation → Operation
sourced_operation m sources (Plain a) = Plain (sourced m sources a)
sourced_operation m sources (Binary a symbol b) = Binary (sourced m sources a) symbol (sourced m sources b)
sourced_operation m sources (Signed a symbol b) = Signed (sourced m sources a) symbol (sourced m sources b)
sourced_operation m sources (Choose c a b) = Choose (sourced m sources c) (sourced m sources a) (sourced m sources b)
sourced_operation m sources (Part name high low) = Part (source_of m sources name) high low
sourced_operation m sources (Widen name by) = Widen (source_of m sources name) by

-- 0 in the width of the first declaration of a name, or the name where there is none
abbrev pub zero_of : List Port → List ℕ → Operand
zero_of [] name = Name name
zero_of (port ∷ ports) name = if bytes_eq port.name name then Literal port.width 0 else zero_of ports name

-- a drive that is left out gives 0
abbrev pub merged_drive : Module → List ℕ → Drive → Drive
merged_drive m sources drive = record {
  target = drive.target;
  operation = if bytes_eq (source_of m sources drive.target) drive.target then sourced_operation m sources drive.operation else Plain (zero_of (declarations m) drive.target);
}

abbrev pub merged_step : Module → List ℕ → Step → Step
merged_step m sources step = record { register = step.register; reset = step.reset; next = sourced m sources step.next }

abbrev pub merged : Module → List ℕ → Module
merged m sources = record m { drives = map (merged_drive m sources) m.drives; steps = map (merged_step m sources) m.steps }

-- the words of all places, each read at its source
abbrev pub resolved : List ℕ → List ℕ → List ℕ
resolved sources words = map (λ source. slice_index words source) sources

-- what is known before a drive
abbrev pub known_before : Module → ℕ → List (List ℕ)
known_before m k = given_names m ++ targets_of (take k m.drives)

-- the word at the source of a drive's target is the one that the drive gives, read at sources, where each merged drive holds that gives it
abbrev pub IsGiven : Module → List ℕ → Drive → Type 0
IsGiven m sources drive =
    (words : List ℕ) → length words ≡ length (all_names m)
    → ((j : ℕ) (d : Drive) → j < length m.drives → (slice_index_or m.drives j d).target ≡ source_of m sources drive.target
    → Holds (width_of m) (named m words) (merged_drive m sources (slice_index_or m.drives j d)))
    → named m words (source_of m sources drive.target) ≡ result_of (width_of m) (named m words) (sourced_operation m sources drive.operation)

-- the place of each name has a source of its width, which stands before what reads the name, and gives its word. Input ports and registers are
-- their own, and no other name has a port
pub record AreMerged (m : Module) (sources : List ℕ) : Type 0 where
  pub size : length sources ≡ length (all_names m)
  pub within : (place : ℕ) → place < length (all_names m) → slice_index sources place < length (all_names m)
  pub given : (name : List ℕ) → Contains (given_names m) name → source_of m sources name ≡ name
  pub ports : (name : List ℕ) → Contains (all_names m) name → Contains (names_of m.inputs) (source_of m sources name) → source_of m sources name ≡ name
  pub widths : (name : List ℕ) → Contains (all_names m) name → width_of m (source_of m sources name) ≡ width_of m name
  pub ahead : (k : ℕ) (name : List ℕ) → k ≤ length m.drives → Contains (known_before m k) name → Contains (known_before m k) (source_of m sources name)
  pub drives : (k : ℕ) (d : Drive) → k < length m.drives → IsGiven m sources (slice_index_or m.drives k d)

-- the assignments and the flip-flops stand for the merged drives and steps of a sound module
pub record IsMerging (m : Module) (c : Merged) : Type 0 where
  pub sound : IsSound m
  pub sources : AreMerged m c.sources.items
  pub safe : IsSound (merged m c.sources.items)
  pub assignments : AreAssigned (merged m c.sources.items) (length (merged m c.sources.items).drives) c.assignments.items
  pub flip_flops : AreStepped (merged m c.sources.items) (length (merged m c.sources.items).steps) c.flip_flops.items
