use Rattle.std.proofs.Common.{◌∙◌, ◌*◌}
use Rattle.av_base.proofs.Residues.{low_bits}
use Rattle.av_base.proofs.word.Word.mul.Goals as goal

pub returns : goal.returns
returns c = c.of.ensures ∙ low_bits (c.args.self.bits * c.args.other.bits) c.args.width.bits c.args.width.most
