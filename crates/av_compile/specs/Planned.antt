-- What is answered of the bytes of a text of whose array a plan is made, and nothing beside the plan.
use Rattle.std.specs.Prelude.{ℕ, List}
use Rattle.av_flat.specs.declared.timed.Timed.{Timed}
use Rattle.av_names.specs.declared.size.Size.{Size}
use Rattle.av_net.specs.declared.plan.Plan.{Plan}
use Rattle.av_space.specs.declared.cells.Cells.{Cells}
use Rattle.av_compile.specs.Steps.{IsMapped}
use Rattle.av_compile.specs.Headline.{Headline}

-- the headline holds of the plan, with the system and the array of the bytes, of which no step finds a fault
pub record IsPlanned (bytes : List ℕ) (words : List Size) (width c : ℕ) (p : Plan) : Type 0 where
  pub timed : Timed
  pub cells : Cells
  pub headline : Headline bytes words width c timed cells p
  pub mapped : IsMapped bytes words width c timed cells
