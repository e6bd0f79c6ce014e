use Rattle.std.proofs.Common.{◌∙◌, sym, subst, All}
use Rattle.av_affine.specs.Numbers.{AtMost}
use Rattle.av_flat.proofs.SignVectors.{small_directions}
use Rattle.av_flat.proofs.direction.along_of.Goals as goal

pub staying-requires : goal.staying-requires
staying-requires c = subst (All (AtMost 1)) (sym (c.deref.ensures.value ∙ c.in_ok-all.ensures)) (small_directions c.args.map.now.from)

pub returns : goal.returns
returns c = rw (c.deref.ensures.value ∙ c.in_ok-all.ensures) at c.staying.ensures
