use Rattle.std.proofs.Common.{map, drop}
use Rattle.av_flat.specs.Trees.{view_piece}
use Rattle.av_normal.specs.inner.Numbered.{signatures_of}
use Rattle.av_normal.specs.inner.Making.{parts_measured, held_parts, StandsFor, AreMade, Continues}
use Rattle.av_normal.proofs.all_pieces.pieces_made.Given as goal

abbrev pub invariant-loop-piece : goal.invariant-loop-piece
invariant-loop-piece l =
    let all = held_parts (signatures_of l.vars) l.domain.rows (map view_piece l.equation) in
    let rest = held_parts (signatures_of l.vars) l.domain.rows (map view_piece (drop l.piece-index l.equation)) in
    record {
      left : StandsFor (parts_measured l.domain.dim rest) (parts_measured l.domain.dim all);
      made : Continues (AreMade l.domain.dim) all (map view_piece l.pieces) rest;
    }
