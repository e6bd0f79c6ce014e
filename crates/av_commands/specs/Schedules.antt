-- What `schedule` refuses, and what it writes.
use Rattle.std.specs.Prelude.{◌≡◌, ◌≢◌, ℕ, List}
use Rattle.av_flat.specs.declared.timed.Timed.{Timed}
use Rattle.av_names.specs.declared.size.Size.{Size}
use Rattle.av_data.specs.Schedules.{schedule_text}
use Rattle.av_compile.specs.declared.refusal.Refusal.{Refusal}
use Rattle.av_compile.specs.declared.refusal.Refusal.TheVariants as refusal
use Rattle.av_compile.specs.Scheduled.{IsScheduled, IsUnscheduled, HasOneSolutionEach}
use Rattle.av_commands.specs.AlphaRefusals.{alpha_reason}

-- the first fault of the bytes with these sizes, up to the search in the box
pub record RefusesSchedule (sizes : List Size) (bits box : ℕ) (bytes reason : List ℕ) : Type 0 where
  pub cause : Refusal
  pub first : IsUnscheduled bytes sizes bits box cause
  pub some : cause ≢ refusal.Memory
  pub told : reason ≡ alpha_reason cause

-- the lines of the first schedule in the box of what the bytes spell. The equations have just one solution, whatever the inputs.
pub record GivesSchedule (sizes : List Size) (bits box : ℕ) (bytes out : List ℕ) : Type 0 where
  pub timed : Timed
  pub scheduled : IsScheduled bytes sizes bits box timed
  pub one_solution : HasOneSolutionEach bytes sizes bits
  pub lines : out ≡ schedule_text timed
