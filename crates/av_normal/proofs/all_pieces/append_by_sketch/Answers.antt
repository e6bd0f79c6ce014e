use Rattle.std.proofs.Common.{◌<◌, ◌≤◌, ◌+◌, List, [], ◌∷◌, ◌++◌, map, drop, rules, sym, ap, subst, ◌∙◌, append_assoc}
use Rattle.std.proofs.lemmas.List.{map-append}
use Rattle.std.proofs.lemmas.Result.{err_from_is_err_and}
use Rattle.av_flat.specs.declared.flat.Piece.{Piece as PieceMade}
use Rattle.av_flat.specs.Trees.{Piece, view, view_piece}
use Rattle.av_flat.specs.Pieces.{Part, parts, with_rows}
use Rattle.av_flat.specs.Quantities.{of_set}
use Rattle.av_normal.specs.NormalForm.{set_of}
use Rattle.av_normal.specs.inner.Numbered.{part_at, signatures_of}
use Rattle.av_normal.specs.Searches.{AreNarrow}
use Rattle.av_normal.specs.inner.Making.{parts_measured, held, StandsFor, AreMade, Continues}
use Rattle.av_normal.proofs.Trying.{past, refused}
use Rattle.av_normal.proofs.Making.{held_at, number_below, numbers_end, one_made, all_made}
use Rattle.av_normal.proofs.all_pieces.append_by_sketch.Goals as goal

pub returns-in_err-made_piece-clause-wide : goal.returns-in_err-made_piece-clause-wide
returns-in_err-made_piece-clause-wide c =
    let dim = c.args.domain.now.dim in
    let rows = c.args.domain.now.rows in
    let own = parts (signatures_of c.args.vars.now) [] (view c.args.tree.now) in
    let all = with_rows rows own in
    let k = c.loop-number.number in
    let below : k < c.piece_count-count.result = search rules in
    let l = number_below (signatures_of c.args.vars.now) (view c.args.tree.now) k c.piece_count-count.result c.piece_count-count.ensures c.requires.few below in
    let next = subst (λ (qs : List Part). StandsFor (parts_measured dim qs) (parts_measured dim all)) (held_at rows own k l) c.loop-number.invariant.left in
    let p = err_from_is_err_and c.from_residual.result c.from_residual.ensures.1 in
    rw (p.1, p.2)
    (refused (of_set (set_of dim (held rows (part_at own k))) ∷ []) (parts_measured dim (drop (k + 1) all)) (parts_measured dim all) c.in_err-made_piece.field-0.0 next c.in_err-made_piece.ensures.wide)

pub loop-number-preserved : goal.loop-number-preserved
loop-number-preserved c =
    let dim = c.args.domain.now.dim in
    let rows = c.args.domain.now.rows in
    let own = parts (signatures_of c.args.vars.now) [] (view c.args.tree.now) in
    let all = with_rows rows own in
    let k = c.loop-number.number in
    let below : k < c.piece_count-count.result = search rules in
    let l = number_below (signatures_of c.args.vars.now) (view c.args.tree.now) k c.piece_count-count.result c.piece_count-count.ensures c.requires.few below in
    let next = subst (λ (qs : List Part). StandsFor (parts_measured dim qs) (parts_measured dim all)) (held_at rows own k l) c.loop-number.invariant.left in
    let old = c.loop-number.invariant.added in
    let piece = c.in_ok-made_piece.field-0 in
    let rest = subst (λ (qs : List Part). Continues (AreMade dim) all old.0 qs) (held_at rows own k l) old.2 in
    record {
      left = past (of_set (set_of dim (held rows (part_at own k))) ∷ []) (parts_measured dim (drop (k + 1) all)) (parts_measured dim all) next (c.in_ok-made_piece.ensures.narrow, tt);
      added = (
        old.0 ++ view_piece piece ∷ [],
        ap (λ (qs : List PieceMade). map view_piece qs) c.in_ok-push.ensures.ok ∙ map-append view_piece c.loop-number.pieces (piece ∷ [])
            ∙ ap (λ (qs : List Piece). qs ++ view_piece piece ∷ []) old.1 ∙ append_assoc (map view_piece c.args.pieces.now) old.0 (view_piece piece ∷ []),
        one_made (AreMade dim) all old.0 (held rows (part_at own k)) (drop (k + 1) all) (view_piece piece) rest (λ qs a. (c.in_ok-made_piece.ensures.made, a)),
      );
    }

pub returns-clause-added : goal.returns-clause-added
returns-clause-added c =
    let dim = c.args.domain.now.dim in
    let rows = c.args.domain.now.rows in
    let own = parts (signatures_of c.args.vars.now) [] (view c.args.tree.now) in
    let all = with_rows rows own in
    let k = c.loop-number.number in
    let past : c.piece_count-count.result ≤ k = search rules in
    let none = numbers_end (signatures_of c.args.vars.now) (view c.args.tree.now) k c.piece_count-count.result c.piece_count-count.ensures c.requires.few rows past in
    let old = c.loop-number.invariant.added in
    record { added = old.0; is = old.1; made = all_made (AreMade dim) all old.0 tt (subst (λ (qs : List Part). Continues (AreMade dim) all old.0 qs) none old.2) }

pub returns-clause-narrow : goal.returns-clause-narrow
returns-clause-narrow c =
    let dim = c.args.domain.now.dim in
    let rows = c.args.domain.now.rows in
    let own = parts (signatures_of c.args.vars.now) [] (view c.args.tree.now) in
    let all = with_rows rows own in
    let k = c.loop-number.number in
    let past : c.piece_count-count.result ≤ k = search rules in
    let none = numbers_end (signatures_of c.args.vars.now) (view c.args.tree.now) k c.piece_count-count.result c.piece_count-count.ensures c.requires.few rows past in
    c.loop-number.invariant.left.narrow (subst (λ (qs : List Part). AreNarrow (parts_measured dim qs)) (sym none) tt)
