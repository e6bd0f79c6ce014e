use Rattle.std.proofs.Common.{◌∙◌, replicate, ap, arith}
use Rattle.av_clock.proofs.Marking.{all_same, same_more}
use Rattle.av_clock.proofs.marks.fill.Goals as goal

pub loop-i-preserved : goal.loop-i-preserved
loop-i-preserved c = same_more c.loop-i.words c.loop-i.i c.args.word (omega arith) c.loop-i.invariant

pub returns : goal.returns
returns c = all_same c.loop-i.words c.args.word (λ k lt. c.loop-i.invariant k (omega arith)) ∙ ap (λ n. replicate n c.args.word) c.loop-i.auto.words
