use Rattle.std.proofs.Common.{◌≡◌, take}
use Rattle.std.specs.List.{All}
use Rattle.av_poly.specs.Points.{IsSmall}
use Rattle.av_poly.specs.Preimages.{rows_before}
use Rattle.av_poly.proofs.before.each_before.Given as goal

abbrev pub invariant-loop-row : goal.invariant-loop-row
invariant-loop-row l = record {
  so_far : l.before ≡ rows_before l.map (take l.row-index l.rows);
  small : All IsSmall l.before;
}
