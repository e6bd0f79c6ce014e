use Rattle.std.proofs.Common.{take}
use Rattle.std.specs.List.{All}
use Rattle.av_poly.specs.Points.{IsSmall}
use Rattle.av_poly.specs.inner.Trivial.{AppendsNontrivial}
use Rattle.av_poly.proofs.trivial.append_nontrivial.Given as goal

abbrev pub invariant-loop-row : goal.invariant-loop-row
invariant-loop-row l = record { appended : AppendsNontrivial l.dim (take l.row-index l.more) l.fn.rows l.rows; small : All IsSmall l.rows }
