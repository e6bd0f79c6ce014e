use Rattle.std.proofs.Common.{take, All}
use Rattle.av_commands.specs.SizeWords.{IsSize}
use Rattle.av_cli.proofs.words.has_size.Given as goal

abbrev pub invariant-loop-word : goal.invariant-loop-word
invariant-loop-word l = All (λ w. IsSize w → ⊥) (take l.word-index l.words)
