use Rattle.std.proofs.Common.{refl}
use Rattle.av_names.proofs.flat_system.computed.Goals as goal

pub returns : goal.returns
returns c = rw (c.width_of.ensures, c.in_ok-pieces.ensures, c.in_ok-points.ensures, c.in_ok-name.ensures, c.as_str.ensures) refl
