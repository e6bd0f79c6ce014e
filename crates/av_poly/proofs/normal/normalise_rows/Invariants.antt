use Rattle.av_poly.proofs.Sofar.{AreSofar}
use Rattle.av_poly.proofs.normal.normalise_rows.Given as goal

abbrev pub invariant-loop-k : goal.invariant-loop-k
invariant-loop-k l = AreSofar l.dim l.fn.rows l.rows l.kept l.k
