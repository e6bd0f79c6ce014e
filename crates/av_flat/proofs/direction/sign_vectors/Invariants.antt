use Rattle.std.proofs.Common.{◌≡◌, ◌∷◌, [], pos}
use Rattle.std.specs.Prelude.{negsuc}
use Rattle.av_flat.specs.Broadcasts.{lists_of}
use Rattle.av_flat.proofs.direction.sign_vectors.Given as goal

abbrev pub invariant-loop-k : goal.invariant-loop-k
invariant-loop-k l = l.all.items ≡ lists_of (pos 0 ∷ pos 1 ∷ negsuc 0 ∷ []) l._k
