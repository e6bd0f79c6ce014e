use Rattle.std.proofs.Common.{sym, subst, All}
use Rattle.av_affine.specs.Numbers.{AtMost}
use Rattle.av_flat.proofs.SignVectors.{small_vectors}
use Rattle.av_flat.proofs.direction.first_moving.Goals as goal

pub first_of-requires-clause-small : goal.first_of-requires-clause-small
first_of-requires-clause-small c = subst (All (AtMost 1)) (sym c.requires.points) (small_vectors c.args.map.now.from)
