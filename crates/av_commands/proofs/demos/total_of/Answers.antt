use Rattle.std.proofs.Common.{◌∙◌}
use Rattle.av_base.proofs.Residues.{low_bits}
use Rattle.av_commands.proofs.Totals.{total_more}
use Rattle.av_commands.proofs.demos.total_of.Goals as goal

pub loop-word-preserved : goal.loop-word-preserved
loop-word-preserved c =
    c.of-total.ensures ∙ low_bits _ c.args.width.bits c.args.width.most
    ∙ total_more c.args.width.bits c.loop-word.total.bits c.args.words.now c.loop-word.word-index _ c.loop-word-test.true c.loop-word.invariant
