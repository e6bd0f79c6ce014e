use Rattle.std.proofs.Common.{sym, subst}
use Rattle.av_affine.specs.Numbers.{AtMost}
use Rattle.av_elim.proofs.Boxes.{clip_most_of, clipped_between}
use Rattle.av_elim.proofs.extent.clipped.Goals as goal

pub returns-clause-low : goal.returns-clause-low
returns-clause-low c = subst (AtMost 4095) (sym c.nearest_of.ensures) (clip_most_of c.args.extent.now.low)

pub returns-clause-high : goal.returns-clause-high
returns-clause-high c = subst (AtMost 4095) (sym c.nearest_of-2.ensures) (clip_most_of c.args.extent.now.high)

pub returns-clause-between : goal.returns-clause-between
returns-clause-between c = λ z a b. rw (c.nearest_of.ensures, c.nearest_of-2.ensures) (clipped_between c.args.extent.now.low c.args.extent.now.high z a b)
