use Rattle.std.proofs.Common.{map, drop}
use Rattle.std.specs.List.{flat_map}
use Rattle.av_flat.specs.Trees.{view_variable, view_system}
use Rattle.av_flat.specs.Signatures.{signatures}
use Rattle.av_flat.specs.Quantities.{measured}
use Rattle.av_normal.specs.inner.Making.{StandsFor, Continues}
use Rattle.av_normal.specs.inner.AllPieces.{HaveAllPieces}
use Rattle.av_normal.proofs.all_pieces.all_pieces.Given as goal

abbrev pub invariant-loop-var : goal.invariant-loop-var
invariant-loop-var l =
    let vs = signatures (view_system l.flat) in
    let all = map view_variable l.var-items in
    let rest = map view_variable (drop l.var-index l.var-items) in
    record {
      left : StandsFor (flat_map (measured vs) rest) (flat_map (measured vs) all);
      made : Continues (HaveAllPieces vs) all (map view_variable l.made) rest;
    }
