use Rattle.std.proofs.Common.{refl}
use Rattle.av_vparse.proofs.BitsOf.{is_width_of}
use Rattle.av_vparse.proofs.declarations.width_above.Goals as goal

pub returns : goal.returns
returns c = is_width_of _ _ refl
