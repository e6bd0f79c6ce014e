use Rattle.std.specs.List.{All}
use Rattle.av_poly.specs.Points.{IsSmall}
use Rattle.av_set_tests.proofs.sets.set.Given as goal

abbrev pub invariant-loop-row : goal.invariant-loop-row
invariant-loop-row l = All IsSmall l.kept
