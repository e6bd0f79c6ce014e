use Rattle.std.proofs.Common.{arith}
use Rattle.av_clock.proofs.Extended.{sum_fits, widened_is}
use Rattle.av_clock.proofs.gate.extended.Goals as goal

pub overflow_add-result : goal.overflow_add-result
overflow_add-result c = let fits = sum_fits c.args.width.bits c.args.by c.args.word c.args.width.least c.requires.most c.requires.word in omega (arith, fits)

pub returns : goal.returns
returns c = let high = c.if-word-width.false in widened_is c.args.width.bits c.args.by c.args.word c.args.width.least c.requires.most (omega (arith, high))
