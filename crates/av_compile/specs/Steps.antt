-- The steps from the bytes of a text, with sizes, to an array, where none of them finds a fault.
use Rattle.std.specs.Prelude.{◌≡◌, ℕ, List}
use Rattle.av_tree.specs.Trees.{System}
use Rattle.av_tree.specs.Grammar.{IsProgramText}
use Rattle.av_flat.specs.declared.timed.Timed.{Timed}
use Rattle.av_flat.specs.Trees.{FlatSystem, view_system}
use Rattle.av_flat.specs.Proper.{IsProper}
use Rattle.av_flat.specs.Legal.{IsLegal, HasAllHelpers}
use Rattle.av_names.specs.declared.size.Size.{Size}
use Rattle.av_names.specs.Sizes.{instance_of}
use Rattle.av_names.specs.Flattened.{flat_of}
use Rattle.av_names.specs.Refusals.{IsAccepted}
use Rattle.av_normal.specs.NormalFaults as normalised
use Rattle.av_serial.specs.SerialFaults as serialised
use Rattle.av_sched.specs.declared.fault.SchedFault.{SchedFault}
use Rattle.av_sched.specs.declared.fault.SchedFault.TheVariants as sched
use Rattle.av_sched.specs.SchedFaults as searched
use Rattle.av_sched.specs.First.{IsFirstSchedule}
use Rattle.av_pipe.specs.Pipelines.{pipelines}
use Rattle.av_space.specs.declared.cells.Cells.{Cells}
use Rattle.av_space.specs.declared.fault.SpaceFault.{SpaceFault}
use Rattle.av_space.specs.declared.fault.SpaceFault.TheVariants as space
use Rattle.av_space.specs.SpaceFaults.{IsSpaceFault}
use Rattle.av_space.specs.Whole.{IsWhole}

-- the bytes spell a system that is accepted with these sizes, and this is its flat system
pub record Flattens (bytes : List ℕ) (words : List Size) (width : ℕ) (s : FlatSystem) : Type 0 where
  pub system : System
  pub text : IsProgramText bytes system
  pub accepted : IsAccepted system words
  pub flat : s ≡ flat_of (instance_of system words width)

-- the bytes spell a system whose equations are proper with these sizes, and this is the normal form of its flat system
pub record Normalises (bytes : List ℕ) (words : List Size) (width : ℕ) (normal : FlatSystem) : Type 0 where
  pub flat : FlatSystem
  pub flattens : Flattens bytes words width flat
  pub proper : IsProper flat
  pub given : normalised.IsGiven flat normal

-- and this is what its reductions are made into
pub record Serialises (bytes : List ℕ) (words : List Size) (width : ℕ) (chained : FlatSystem) : Type 0 where
  pub normal : FlatSystem
  pub normalises : Normalises bytes words width normal
  pub given : serialised.IsGiven normal chained

-- nothing keeps the system from having a first schedule in the box
abbrev pub HasFirstSchedule : FlatSystem → ℕ → Type 0
HasFirstSchedule s c = (f : SchedFault) → searched.IsFault s c f → f ≡ sched.Memory

-- the bytes spell a system that has a first schedule in the box, and this is its chained system with that schedule and a helper for
-- each reference that is moved
pub record IsPipelined (bytes : List ℕ) (words : List Size) (width c : ℕ) (t : Timed) : Type 0 where
  pub serialises : Serialises bytes words width (view_system t.flat)
  pub first : IsFirstSchedule (view_system t.flat) c t.times
  pub no_cause : HasFirstSchedule (view_system t.flat) c
  pub helpers : t.helpers ≡ pipelines (view_system t.flat) t.times
  pub legal : IsLegal t
  pub all : HasAllHelpers t

-- no quantity of its array is above its limit
abbrev pub HasArray : Timed → Type 0
HasArray t = (f : SpaceFault) → IsSpaceFault t f → f ≡ space.Memory

-- its array, with the whole listing
pub record IsMapped (bytes : List ℕ) (words : List Size) (width c : ℕ) (t : Timed) (a : Cells) : Type 0 where
  pub pipelined : IsPipelined bytes words width c t
  pub whole : IsWhole t a
  pub no_cause : HasArray t
