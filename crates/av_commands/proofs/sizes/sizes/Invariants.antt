use Rattle.av_commands.proofs.GivenSizes.{AreFound}
use Rattle.av_commands.proofs.sizes.sizes.Given as goal

abbrev pub invariant-loop-word : goal.invariant-loop-word
invariant-loop-word l = AreFound l.words l.sizes l.word-index
