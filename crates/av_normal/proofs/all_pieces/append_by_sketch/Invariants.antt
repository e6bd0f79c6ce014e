use Rattle.std.proofs.Common.{◌≡◌, ◌++◌, List, [], map, drop}
use Rattle.av_flat.specs.Trees.{Piece, view, view_piece}
use Rattle.av_flat.specs.Pieces.{parts, with_rows}
use Rattle.av_normal.specs.inner.Numbered.{signatures_of}
use Rattle.av_normal.specs.inner.Making.{parts_measured, StandsFor, AreMade, Continues}
use Rattle.av_normal.proofs.all_pieces.append_by_sketch.Given as goal

abbrev pub invariant-loop-number : goal.invariant-loop-number
invariant-loop-number l =
    let all = with_rows l.domain.rows (parts (signatures_of l.vars) [] (view l.tree)) in
    record {
      left : StandsFor (parts_measured l.domain.dim (drop l.number all)) (parts_measured l.domain.dim all);
      added : (ys : List Piece) × (map view_piece l.pieces ≡ map view_piece l.fn.pieces ++ ys) × Continues (AreMade l.domain.dim) all ys (drop l.number all);
    }
