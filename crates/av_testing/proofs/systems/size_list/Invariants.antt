use Rattle.av_names.specs.Texts.{AreSmall}
use Rattle.av_testing.proofs.systems.size_list.Given as goal

abbrev pub invariant-loop-word : goal.invariant-loop-word
invariant-loop-word l = AreSmall l.sizes.items
