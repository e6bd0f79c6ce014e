use Rattle.std.proofs.Common.{◌≡◌, ◌++◌, take}
use Rattle.std.specs.List.{All}
use Rattle.av_poly.specs.Points.{IsSmall}
use Rattle.av_poly.specs.inner.Parts.{AreParts}
use Rattle.av_poly.proofs.parts.parts.Given as goal

abbrev pub invariant-loop-row : goal.invariant-loop-row
invariant-loop-row l = record {
  kept : l.kept ≡ l.within ++ take l.row-index l.rows;
  small : All IsSmall l.kept;
  parts : AreParts l.dim l.within (take l.row-index l.rows) l.parts;
}
