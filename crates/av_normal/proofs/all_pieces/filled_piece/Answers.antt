use Rattle.std.proofs.Common.{◌≡◌, ◌∙◌, ℕ, false, List, map, sym, subst, All}
use Rattle.std.proofs.lemmas.Result.{err_from_is_err_and}
use Rattle.av_poly.specs.Normal.{AreNormalised}
use Rattle.av_poly.specs.Points.{Set, Has}
use Rattle.av_affine.specs.Forms.{IsWithinLimits}
use Rattle.av_flat.specs.Trees.{Tree, view, view_piece}
use Rattle.av_flat.specs.Pieces.{filled}
use Rattle.av_flat.specs.Quantities.{of_set}
use Rattle.av_normal.specs.NormalForm.{IsNormalised, HasNormalSets, set_of}
use Rattle.av_normal.specs.inner.AllPieces.{IsPieceOfPart}
use Rattle.av_normal.specs.inner.Making.{filled_part}
use Rattle.av_normal.specs.Searches.{AreNarrow, IsWide}
use Rattle.av_normal.specs.inner.ReductionSets.{has_reduction}
use Rattle.av_normal.proofs.Making.{plain_piece, plain_bodies}
use Rattle.av_normal.proofs.all_pieces.filled_piece.Goals as goal

pub returns-in_err-tree-clause-wide : goal.returns-in_err-tree-clause-wide
returns-in_err-tree-clause-wide c =
    let f = c.in_err-tree.field-0.0 in
    let rows = c.args.piece.domain.rows in
    let p = err_from_is_err_and c.from_residual-in_err-tree.result c.from_residual-in_err-tree.ensures.1 in
    rw (p.1, p.2) (λ dim own made.
    let normal = subst (λ (n : ℕ). AreNormalised n own.rows rows) (sym made.domain.dim) made.domain.rows in
    subst (λ (sets : List Set). IsWide (map of_set sets) f) (made.tree.bodies own.rows) (c.in_err-tree.ensures.wide own.rows normal))

pub returns-then-not-has_reduction-clause-pieces : goal.returns-then-not-has_reduction-clause-pieces
returns-then-not-has_reduction-clause-pieces c = λ dim own made.
    let plain : has_reduction (view c.args.piece.tree) ≡ false = sym c.has_reduction.ensures ∙ c.if-not-has_reduction.true in
    subst (λ (d : Set). IsPieceOfPart dim (filled_part own) (record { domain = d; tree = view c.args.piece.tree })) (sym c.in_ok-domain.ensures) (plain_piece dim own (view_piece c.args.piece) c.requires plain made)

pub returns-then-not-has_reduction-clause-narrow : goal.returns-then-not-has_reduction-clause-narrow
returns-then-not-has_reduction-clause-narrow c = λ dim own made.
    let plain : has_reduction (view c.args.piece.tree) ≡ false = sym c.has_reduction.ensures ∙ c.if-not-has_reduction.true in
    subst (λ (sets : List Set). AreNarrow (map of_set sets)) (sym (plain_bodies dim own (view_piece c.args.piece) plain made)) tt

pub returns-clause-narrow : goal.returns-clause-narrow
returns-clause-narrow c = λ dim own made.
    let normal = subst (λ (n : ℕ). AreNormalised n own.rows c.args.piece.domain.rows) (sym made.domain.dim) made.domain.rows in
    subst (λ (sets : List Set). AreNarrow (map of_set sets)) (made.tree.bodies own.rows) (c.in_ok-tree.ensures.narrow own.rows normal)

pub returns-clause-pieces : goal.returns-clause-pieces
returns-clause-pieces c = λ dim own made.
    let normal = subst (λ (n : ℕ). AreNormalised n own.rows c.args.piece.domain.rows) (sym made.domain.dim) made.domain.rows in
    let copied = c.in_ok-domain.ensures in
    record {
      domain = subst (λ (d : Set). IsNormalised (set_of dim own) d) (sym copied) made.domain;
      tree = λ z h.
          subst (λ (t : Tree). HasNormalSets (filled own.rows t) (view c.in_ok-tree.tree)) (made.tree.same z (subst (λ (d : Set). Has d z) copied h)) (c.in_ok-tree.ensures.same own.rows normal);
      small = subst (λ (d : Set). All IsWithinLimits d.rows) (sym copied) made.small;
    }
