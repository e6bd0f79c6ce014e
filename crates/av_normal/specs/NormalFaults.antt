-- Why a system has no normal form: of four causes the first that holds (the limits and their order are this project's).
use Rattle.std.specs.Prelude.{◌≡◌, ℕ, ◌⊎◌}
use Rattle.av_tree.specs.Trees.{Text}
use Rattle.av_flat.specs.declared.quantity.Quantity.{Quantity}
use Rattle.av_flat.specs.Trees.{FlatSystem}
use Rattle.av_flat.specs.Quantities.{HasManyPieces, HasWideSets, HasUnbounded, HasLargeBox}
use Rattle.av_flat.specs.Shown.{SameMeaning}
use Rattle.av_flat.specs.Solutions.{shows_of, declares_of}
use Rattle.av_flat.specs.Kept.{IsKept}
use Rattle.av_flat.specs.Proper.{IsProper}
use Rattle.av_normal.specs.declared.fault.NormalFault.{NormalFault}
use Rattle.av_normal.specs.declared.fault.NormalFault.TheVariants as fault
use Rattle.av_normal.specs.NormalForm.{IsNormalForm}

-- no equation has too many pieces
abbrev pub HasFewPieces : FlatSystem → Type 0
HasFewPieces s = (n : ℕ) → HasManyPieces s n → ⊥

-- no set and no composed map is above a limit
abbrev pub HasNarrowSets : FlatSystem → Type 0
HasNarrowSets s = (kind : Quantity) (n : ℕ) → HasWideSets s kind n → ⊥

-- no domain is unbounded
abbrev pub HasEnds : FlatSystem → Type 0
HasEnds s = (name : Text) → HasUnbounded s name → ⊥

-- the fault is of the first cause that holds: pieces, sets, ends, boxes; out of memory has none
abbrev pub IsFault : FlatSystem → NormalFault → Type 0
IsFault s (fault.Pieces n) = HasManyPieces s n
IsFault s (fault.Limit kind n) = HasFewPieces s × (HasWideSets s kind n ⊎ (HasNarrowSets s × HasEnds s × HasLargeBox s kind n))
IsFault s (fault.Unbounded name) = HasFewPieces s × HasNarrowSets s × HasUnbounded s name
IsFault s fault.Memory = Unit {0}

-- t is the normal form of s and shows what s shows, and s has no cause for a fault
pub record IsGiven (s t : FlatSystem) : Type 0 where
  pub form : IsNormalForm s t
  pub same : SameMeaning (shows_of s) (declares_of s) (shows_of t) (declares_of t)
  pub kept : IsKept t
  pub proper : IsProper s → IsProper t
  pub no_cause : (f : NormalFault) → IsFault s f → f ≡ fault.Memory
