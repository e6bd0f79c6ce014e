-- What is answered of the bytes of a text whose system is laid out as an array: the steps up to its first schedule in a box, then
-- pipelines for the broadcasts that the schedule moves, and the array. The first step that finds a fault answers.
use Rattle.std.specs.Prelude.{◌≡◌, ℕ, List}
use Rattle.av_flat.specs.declared.timed.Timed.{Timed}
use Rattle.av_names.specs.declared.size.Size.{Size}
use Rattle.av_space.specs.declared.fault.SpaceFault.{SpaceFault}
use Rattle.av_space.specs.SpaceFaults.{IsSpaceFault}
use Rattle.av_compile.specs.declared.refusal.Refusal.{Refusal}
use Rattle.av_compile.specs.Refusals.{of_space}
use Rattle.av_compile.specs.Scheduled.{IsUnscheduled}
pub use Rattle.av_compile.specs.Steps.{IsPipelined, HasArray, IsMapped}

-- the first fault: one up to the schedule, or the first quantity of the array that is above its limit
pub data IsUnmapped (bytes : List ℕ) (words : List Size) (width c : ℕ) (r : Refusal) : Type 0 where
  in_schedule : IsUnscheduled bytes words width c r → IsUnmapped bytes words width c r
  in_array : (f : SpaceFault) → r ≡ of_space f → (t : Timed) → IsPipelined bytes words width c t → IsSpaceFault t f → IsUnmapped bytes words width c r
