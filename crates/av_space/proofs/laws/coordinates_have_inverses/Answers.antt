use Rattle.av_space.proofs.Placed.{has_inverse_rows}
use Rattle.av_space.proofs.laws.coordinates_have_inverses.Goals as goal

pub returns : goal.returns
returns c = has_inverse_rows
