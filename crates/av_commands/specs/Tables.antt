-- What `table` refuses, and what it writes.
use Rattle.std.specs.Prelude.{◌≡◌, ◌≢◌, ℕ, List}
use Rattle.av_flat.specs.declared.timed.Timed.{Timed}
use Rattle.av_names.specs.declared.size.Size.{Size}
use Rattle.av_space.specs.declared.cells.Cells.{Cells}
use Rattle.av_data.specs.Tables.{table_text}
use Rattle.av_compile.specs.declared.refusal.Refusal.{Refusal}
use Rattle.av_compile.specs.declared.refusal.Refusal.TheVariants as refusal
use Rattle.av_compile.specs.Scheduled.{HasOneSolutionEach}
use Rattle.av_compile.specs.Mapped.{IsMapped, IsUnmapped}
use Rattle.av_commands.specs.AlphaRefusals.{alpha_reason}

-- the first fault of the bytes with these sizes, up to the quantities of the array
pub record RefusesTable (sizes : List Size) (bits box : ℕ) (bytes reason : List ℕ) : Type 0 where
  pub cause : Refusal
  pub first : IsUnmapped bytes sizes bits box cause
  pub some : cause ≢ refusal.Memory
  pub told : reason ≡ alpha_reason cause

-- the lines of the array of what the bytes spell, by its first schedule in the box, with its whole listing. The equations have just
-- one solution, whatever the inputs.
pub record GivesTable (sizes : List Size) (bits box : ℕ) (bytes out : List ℕ) : Type 0 where
  pub timed : Timed
  pub cells : Cells
  pub mapped : IsMapped bytes sizes bits box timed cells
  pub one_solution : HasOneSolutionEach bytes sizes bits
  pub lines : out ≡ table_text timed cells
