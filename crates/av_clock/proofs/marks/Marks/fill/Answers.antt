use Rattle.std.proofs.Common.{arith}
use Rattle.std.proofs.lemmas.Grind.{common_steps}
use Rattle.av_clock.proofs.Bits.{seen_filled}
use Rattle.av_clock.proofs.marks.Marks.fill.Goals as goal

pub returns : goal.returns
returns c = seen_filled c.self.inside.words _ c.fill.new.words c.self.inside.count c.word_of.result c.args.mark c.args.self.now c.self.view_is c.self.invariant c.fill.auto.words c.deref_mut.ensures.value c.fill.ensures c.word_of.ensures

pub invariant_of-self : goal.invariant_of-self
invariant_of-self c = grind (arith, common_steps)
