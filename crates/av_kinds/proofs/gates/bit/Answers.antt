use Rattle.std.proofs.Common.{refl}
use Rattle.av_kinds.specs.Tops.{one_bit}
use Rattle.av_kinds.proofs.gates.bit.Goals as goal
use Rattle.av_base.proofs.Widths.{width_is}

pub returns : goal.returns
returns c = width_is _ one_bit refl
