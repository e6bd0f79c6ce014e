use Rattle.std.proofs.Common.{sym, ap, ◌∙◌}
use Rattle.av_base.specs.Spelling.{begins_comment}
use Rattle.av_data.proofs.Comments.{past_byte}
use Rattle.av_data.proofs.lines.uncommented.Goals as goal

pub loop-i-preserved : goal.loop-i-preserved
loop-i-preserved c = past_byte c.args.line.now c.loop-i.i c.loop-i-test.true (ap (begins_comment 45) (sym c.from.ensures) ∙ sym c.begins_comment.ensures ∙ c.if-begins_comment.false) c.loop-i.invariant
