use Rattle.std.proofs.Common.{◌∙◌}
use Rattle.av_flat.proofs.direction.directions_of.Goals as goal

pub returns : goal.returns
returns c = rw (c.deref.ensures.value ∙ c.in_ok-all.ensures) at c.nonzero.ensures
