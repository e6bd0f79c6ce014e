use Rattle.std.proofs.Common.{◌≡◌, ◌++◌, ◌∷◌, map, take}
use Rattle.av_flat.proofs.direction.prepend_all.Given as goal

abbrev pub invariant-loop-rest : goal.invariant-loop-rest
invariant-loop-rest l = l.to.items ≡ l.fn.to.items ++ map (λ y. l.entry ∷ y) (take l.rest-index l.shorter)
