use Rattle.std.proofs.Common.{◌≡◌, ◌∷◌, map, take}
use Rattle.av_affine.specs.Completion.{first_row}
use Rattle.av_space.proofs.placing.space_rows.Given as goal

abbrev pub invariant-loop-k : goal.invariant-loop-k
invariant-loop-k l = first_row l.matrix ∷ l.rows ≡ map (take l.matrix.size) (take l.k l.matrix.cells)
