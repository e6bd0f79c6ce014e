-- What holds of drives and steps that are not marked, and which drives a settle may compute.
use Rattle.std.specs.Prelude.{◌≡◌, ℕ, ◌+◌, ◌<◌, List, ◌∷◌, length, nat_eq, slice_index_or, Bool, true, false, not, ◌&&◌, ◌||◌, if◌then◌else◌}
use Rattle.av_net.specs.declared.operation.Operand.{Operand}
use Rattle.av_net.specs.declared.operation.Operand.TheVariants.{Name}
use Rattle.av_net.specs.declared.operation.Operation.{Operation}
use Rattle.av_net.specs.declared.operation.Operation.TheVariants.{Plain, Binary, Signed, Choose, Part, Widen}
use Rattle.av_net.specs.declared.netlist.Drive.{Drive}
use Rattle.av_net.specs.declared.netlist.Step.{Step}
use Rattle.av_net.specs.declared.netlist.Module.{Module}
use Rattle.av_net.specs.Meaning.{Words, word_of}
use Rattle.av_net.specs.Names.{width_of}
use Rattle.av_net.specs.Settled.{Holds}
use Rattle.av_clock.specs.Named.{named}

-- the mark is there, and clear
abbrev pub IsClear : List Bool → ℕ → Type 0
IsClear marks k = slice_index_or marks k true ≡ false

-- every drive that is not marked holds, and the register of every step that is not marked has its operand's word
pub record AreHeld (m : Module) (words : List ℕ) (stale due : List Bool) : Type 0 where
  pub drives : (k : ℕ) (d : Drive) → k < length m.drives → IsClear stale k → Holds (width_of m) (named m words) (slice_index_or m.drives k d)
  pub steps : (k : ℕ) (d : Step) → k < length m.steps → IsClear due k → named m words (slice_index_or m.steps k d).register ≡ word_of (named m words) (slice_index_or m.steps k d).next

-- ---- what is computed

-- the operand has the word that it had
abbrev pub has_kept : Words → Words → Operand → Bool
has_kept v v' operand = nat_eq (word_of v operand) (word_of v' operand)

-- each operand has
abbrev pub reads_same : Words → Words → Operation → Bool
reads_same v v' (Plain a) = has_kept v v' a
reads_same v v' (Binary a symbol b) = has_kept v v' a && has_kept v v' b
reads_same v v' (Signed a symbol b) = has_kept v v' a && has_kept v v' b
reads_same v v' (Choose c a b) = has_kept v v' c && (has_kept v v' a && has_kept v v' b)
reads_same v v' (Part name high low) = has_kept v v' (Name name)
reads_same v v' (Widen name by) = has_kept v v' (Name name)

-- how many drives are marked, or have an operand whose word is another now
abbrev pub touched : Words → Words → List Drive → List Bool → ℕ
touched v v' (drive ∷ drives) (mark ∷ marks) = (if mark || not (reads_same v v' drive.operation) then 1 else 0) + touched v v' drives marks
touched v v' _ _ = 0
