use Rattle.std.proofs.Common.{ℕ, ◌<◌, ◌≤◌, ◌+◌, List, [], ◌++◌, length, map, drop, rules, subst}
use Rattle.std.proofs.lemmas.List.Elements.{All-append}
use Rattle.std.proofs.lemmas.Result.{err_from_is_err_and}
use Rattle.av_affine.specs.Forms.{IsWithinLimits}
use Rattle.av_flat.specs.declared.flat.Piece.{Piece as PieceMade}
use Rattle.av_flat.specs.Trees.{view, view_piece}
use Rattle.av_flat.specs.Pieces.{parts, with_rows}
use Rattle.av_flat.specs.Quantities.{Measured}
use Rattle.av_normal.specs.inner.Numbered.{signatures_of}
use Rattle.av_normal.specs.Searches.{AreNarrow, IsWide}
use Rattle.av_normal.specs.inner.Making.{parts_measured, held_parts, StandsFor, AreMade, AreAdded, IsParted, Continues}
use Rattle.av_normal.proofs.SameRows.{narrow_after, wide_after, added_after}
use Rattle.av_normal.proofs.Trying.{past, refused, next_stands, parts_append}
use Rattle.av_normal.proofs.Making.{all_at, all_made, more_made}
use Rattle.av_normal.proofs.all_pieces.pieces_made.Goals as goal
use Rattle.av_base.proofs.Lists.{next_item, nothing_left}

pub append_pieces-requires-clause-readable : goal.append_pieces-requires-clause-readable
append_pieces-requires-clause-readable c =
    let equation = c.args.equation.now in
    let i = c.loop-piece.piece-index in
    let l : i < length equation = search rules in
    let own = all_at (IsParted (signatures_of c.args.vars.now) c.args.domain.now.dim) view_piece equation i c.piece-item.result l c.piece-item.is c.requires.parted in
    own.readable

pub append_pieces-requires-clause-domain : goal.append_pieces-requires-clause-domain
append_pieces-requires-clause-domain c =
    let equation = c.args.equation.now in
    let i = c.loop-piece.piece-index in
    let l : i < length equation = search rules in
    let own = all_at (IsParted (signatures_of c.args.vars.now) c.args.domain.now.dim) view_piece equation i c.piece-item.result l c.piece-item.is c.requires.parted in
    c.in_ok-both.ensures.limits (All-append IsWithinLimits c.args.domain.now.rows c.piece-item.result.domain.rows c.requires.domain own.rows)

pub append_pieces-requires-clause-few : goal.append_pieces-requires-clause-few
append_pieces-requires-clause-few c =
    let equation = c.args.equation.now in
    let i = c.loop-piece.piece-index in
    let l : i < length equation = search rules in
    let own = all_at (IsParted (signatures_of c.args.vars.now) c.args.domain.now.dim) view_piece equation i c.piece-item.result l c.piece-item.is c.requires.parted in
    own.few

pub returns-in_err-append_pieces-clause-wide : goal.returns-in_err-append_pieces-clause-wide
returns-in_err-append_pieces-clause-wide c =
    let vs = signatures_of c.args.vars.now in
    let dim = c.args.domain.now.dim in
    let rows = c.args.domain.now.rows in
    let equation = c.args.equation.now in
    let i = c.loop-piece.piece-index in
    let l : i < length equation = search rules in
    let piece = c.piece-item.result in
    let own = parts vs [] (view piece.tree) in
    let new = with_rows (rows ++ piece.domain.rows) own in
    let rest = held_parts vs rows (map view_piece (drop (i + 1) equation)) in
    let all = parts_measured dim (held_parts vs rows (map view_piece equation)) in
    let next = next_stands (λ (es : List PieceMade). parts_measured dim (held_parts vs rows (map view_piece es))) all equation i piece l c.piece-item.is c.loop-piece.invariant.left in
    let apart = subst (λ (os : List Measured). StandsFor os all) (parts_append dim new rest) next in
    let f = c.in_err-append_pieces.field-0.0 in
    let both = c.in_ok-both.both.rows in
    let w = wide_after dim (rows ++ piece.domain.rows) both c.in_ok-both.ensures.rows own f
    (subst (λ (d : ℕ). IsWide (parts_measured d (with_rows both own)) f) c.in_ok-both.ensures.dim c.in_err-append_pieces.ensures.wide) in
    let p = err_from_is_err_and c.from_residual-in_err-append_pieces.result c.from_residual-in_err-append_pieces.ensures.1 in
    rw (p.1, p.2) (refused (parts_measured dim new) (parts_measured dim rest) all f apart w)

pub loop-piece-preserved : goal.loop-piece-preserved
loop-piece-preserved c =
    let vs = signatures_of c.args.vars.now in
    let dim = c.args.domain.now.dim in
    let rows = c.args.domain.now.rows in
    let equation = c.args.equation.now in
    let i = c.loop-piece.piece-index in
    let l : i < length equation = search rules in
    let piece = c.piece-item.result in
    let own = parts vs [] (view piece.tree) in
    let new = with_rows (rows ++ piece.domain.rows) own in
    let rest = held_parts vs rows (map view_piece (drop (i + 1) equation)) in
    let whole = held_parts vs rows (map view_piece equation) in
    let all = parts_measured dim whole in
    let next = next_stands (λ (es : List PieceMade). parts_measured dim (held_parts vs rows (map view_piece es))) all equation i piece l c.piece-item.is c.loop-piece.invariant.left in
    let apart = subst (λ (os : List Measured). StandsFor os all) (parts_append dim new rest) next in
    let both = c.in_ok-both.both.rows in
    let old = map view_piece c.loop-piece.pieces in
    let longer = map view_piece c.append_pieces.new.pieces in
    let narrow = narrow_after dim (rows ++ piece.domain.rows) both c.in_ok-both.ensures.rows own
    (subst (λ (d : ℕ). AreNarrow (parts_measured d (with_rows both own))) c.in_ok-both.ensures.dim c.in_ok-append_pieces.ensures.narrow) in
    let added = added_after dim (rows ++ piece.domain.rows) both c.in_ok-both.ensures.rows own old longer
    (subst (λ (d : ℕ). AreAdded d (with_rows both own) old longer) c.in_ok-both.ensures.dim c.in_ok-append_pieces.ensures.added) in
    let made = subst (λ (es : List PieceMade). Continues (AreMade dim) whole old (held_parts vs rows (map view_piece es))) (next_item equation i piece l c.piece-item.is) c.loop-piece.invariant.made in
    record { left = past (parts_measured dim new) (parts_measured dim rest) all apart narrow; made = more_made dim whole new rest old longer added made }

pub returns-clause-made : goal.returns-clause-made
returns-clause-made c =
    let vs = signatures_of c.args.vars.now in
    let dim = c.args.domain.now.dim in
    let rows = c.args.domain.now.rows in
    let equation = c.args.equation.now in
    let i = c.loop-piece.piece-index in
    let l : length equation ≤ i = search rules in
    let whole = held_parts vs rows (map view_piece equation) in
    let made = map view_piece c.loop-piece.pieces in
    let end = subst (λ (es : List PieceMade). Continues (AreMade dim) whole made (held_parts vs rows (map view_piece es))) (nothing_left equation i l) c.loop-piece.invariant.made in
    all_made (AreMade dim) whole made tt end
