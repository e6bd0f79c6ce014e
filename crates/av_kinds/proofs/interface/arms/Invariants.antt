use Rattle.std.proofs.Common.{◌≡◌}
use Rattle.av_kinds.specs.Names.{numbered}
use Rattle.av_kinds.specs.inner.Interfaces.{options_by}
use Rattle.av_kinds.proofs.interface.arms.Given as goal

abbrev pub invariant-loop-k : goal.invariant-loop-k
invariant-loop-k l = l.arms ≡ options_by (numbered l.letter) l.word l.bound l.k
