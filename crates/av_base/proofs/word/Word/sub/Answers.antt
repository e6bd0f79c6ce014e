use Rattle.std.proofs.Common.{◌∙◌}
use Rattle.av_base.proofs.Residues.{low_difference}
use Rattle.av_base.proofs.word.Word.sub.Goals as goal

pub returns : goal.returns
returns c = c.of.ensures ∙ low_difference c.args.self.bits c.args.other.bits c.args.width.bits c.args.width.most c.requires.right
