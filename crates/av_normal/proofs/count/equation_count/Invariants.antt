use Rattle.std.proofs.Common.{◌≡◌, ◌≤◌, ◌+◌, ◌-◌, ◌^◌, min, map, drop}
use Rattle.av_flat.specs.Trees.{view_piece}
use Rattle.av_normal.specs.inner.Counted.{pieces_counted}
use Rattle.av_normal.proofs.count.equation_count.Given as goal

-- those so far and those to come are all
abbrev pub invariant-loop-piece : goal.invariant-loop-piece
invariant-loop-piece l = record {
  sum : min (l.count + pieces_counted (map view_piece (drop l.piece-index l.pieces))) (2 ^ 128 - 1) ≡ min (pieces_counted (map view_piece l.pieces)) (2 ^ 128 - 1);
  most : l.count ≤ 2 ^ 128 - 1;
}
