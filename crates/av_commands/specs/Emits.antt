-- What `emit` writes. It refuses what `table` refuses.
use Rattle.std.specs.Prelude.{◌≡◌, ℕ, List}
use Rattle.av_flat.specs.declared.timed.Timed.{Timed}
use Rattle.av_names.specs.declared.size.Size.{Size}
use Rattle.av_net.specs.declared.design.Design.{Design}
use Rattle.av_net.specs.declared.plan.Plan.{Plan}
use Rattle.av_net.specs.Flat.{flat_of}
use Rattle.av_net.specs.PlanTexts.{text2}
use Rattle.av_net.specs.Designs.{Spells}
use Rattle.av_space.specs.declared.cells.Cells.{Cells}
use Rattle.av_compile.specs.Headline.{Headline}

-- the text of a plan whose flat design computes what the bytes say. The grammar reads the text as that design and as no other.
pub record GivesEmit (sizes : List Size) (bits box : ℕ) (bytes out : List ℕ) : Type 0 where
  pub timed : Timed
  pub cells : Cells
  pub plan : Plan
  pub computes : Headline bytes sizes bits box timed cells plan
  pub text_of : out ≡ text2 plan
  pub spelled : Spells out (flat_of plan)
  pub only : (other : Design) → Spells out other → other ≡ flat_of plan
