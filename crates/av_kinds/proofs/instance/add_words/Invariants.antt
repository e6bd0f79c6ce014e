use Rattle.std.proofs.Common.{◌++◌}
use Rattle.av_kinds.specs.Written.{program_of}
use Rattle.av_kinds.specs.Names.{labels}
use Rattle.av_kinds.specs.inner.Instances.{operand_of, words_for}
use Rattle.av_kinds.proofs.InstanceSteps.{AreWordsFrom}
use Rattle.av_kinds.proofs.instance.add_words.Given as goal

abbrev pub invariant-loop-k : goal.invariant-loop-k
invariant-loop-k l = AreWordsFrom (operand_of (labels (program_of l.program)) l.width) l.count l.site.selections l.site.otherwise l.k l.operands (l.initial.operands ++ words_for (operand_of (labels (program_of l.program)) l.width) l.count l.site.selections l.site.otherwise)
