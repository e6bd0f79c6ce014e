use Rattle.std.proofs.Common.{◌≡◌, map, take}
use Rattle.av_space.proofs.TreeSizes.{made_size}
use Rattle.av_space.proofs.operators.sizes_of.Given as goal

abbrev pub invariant-loop-piece : goal.invariant-loop-piece
invariant-loop-piece l = l.sizes ≡ map made_size (take l.piece-index l.piece-items)
