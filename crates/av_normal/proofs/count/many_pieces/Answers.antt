use Rattle.std.proofs.Common.{◌≡◌, ◌-◌, ◌^◌, min, map, sym, ap, ◌∙◌, arith, List, true≢false}
use Rattle.av_flat.specs.declared.flat.Piece.{Piece as PieceMade}
use Rattle.av_flat.specs.Trees.{view_piece, view_variable, right_side}
use Rattle.av_flat.specs.Quantities.{piece_count}
use Rattle.av_normal.specs.inner.Counted.{pieces_counted}
use Rattle.av_normal.proofs.Capped.{counted_right_side}
use Rattle.av_normal.proofs.count.many_pieces.Goals as goal
use Rattle.av_normal.proofs.count.many_pieces.Goals.{else-is_computed-via-then-is_computed+else-count-gt-MOST_PIECES, else-is_computed-via-else-is_computed}

pub returns-then-count-gt-MOST_PIECES-clause-some : goal.returns-then-count-gt-MOST_PIECES-clause-some
returns-then-count-gt-MOST_PIECES-clause-some c =
    let v = view_variable c.args.var.now in
    let n = piece_count (right_side v) in
    let e : c.equation_count-count.result ≡ min n (2 ^ 128 - 1) =
    c.equation_count-count.ensures ∙ ap (λ (ps : List PieceMade). min (pieces_counted (map view_piece ps)) (2 ^ 128 - 1)) c.as_slice.ensures
    ∙ ap (λ k. min k (2 ^ 128 - 1)) (sym (counted_right_side v)) in
    (sym c.if-is_computed.ensures, omega (arith, e), e)

pub returns-else-is_computed-clause-none : goal.returns-else-is_computed-clause-none
returns-else-is_computed-clause-none c =
    let v = view_variable c.args.var.now in
    let n = piece_count (right_side v) in
    let e : c.equation_count-count.result ≡ min n (2 ^ 128 - 1) =
    c.equation_count-count.ensures ∙ ap (λ (ps : List PieceMade). min (pieces_counted (map view_piece ps)) (2 ^ 128 - 1)) c.as_slice.ensures
    ∙ ap (λ k. min k (2 ^ 128 - 1)) (sym (counted_right_side v)) in
    elim c.else-is_computed.branch [
      | else-is_computed-via-then-is_computed+else-count-gt-MOST_PIECES w ↦ (λ h. omega (arith, e))
      | else-is_computed-via-else-is_computed w ↦ (λ h. absurd (true≢false (sym h ∙ sym w.if-is_computed.ensures)))
    ]
