use Rattle.std.proofs.Common.{◌∙◌, ◌++◌, List, Bool, [], ap, subst, arith}
use Rattle.av_affine.specs.declared.form.Form.{Form}
use Rattle.std.proofs.lemmas.Result.{err_from_is_err_and}
use Rattle.av_poly.specs.Points.{Set}
use Rattle.av_flat.specs.Trees.{view}
use Rattle.av_flat.specs.Pieces.{parts}
use Rattle.av_flat.specs.Quantities.{of_set}
use Rattle.av_normal.specs.NormalForm.{IsNormalised, set_of}
use Rattle.av_normal.specs.inner.Numbered.{part_at, signatures_of}
use Rattle.av_normal.specs.Searches.{IsNarrow, IsWideOne}
use Rattle.av_normal.specs.inner.Making.{held}
use Rattle.av_normal.proofs.InnerSets.{same_set}
use Rattle.av_normal.proofs.Sketches.{same_count, same_sketch}
use Rattle.av_normal.proofs.Searching.{wide_here}
use Rattle.av_normal.proofs.all_pieces.made_piece.Goals as goal

pub outline_at-requires-clause-number : goal.outline_at-requires-clause-number
outline_at-requires-clause-number c =
    let n = same_count (signatures_of c.args.vars.now) (view c.args.sketch.now) (view c.args.tree.now) c.requires.same in
    omega (arith, c.requires.number, n)

pub outline_at-requires-clause-few : goal.outline_at-requires-clause-few
outline_at-requires-clause-few c =
    let n = same_count (signatures_of c.args.vars.now) (view c.args.sketch.now) (view c.args.tree.now) c.requires.same in
    omega (arith, c.requires.few, n)

pub needed_tree-requires-clause-folds : goal.needed_tree-requires-clause-folds
needed_tree-requires-clause-folds c = c.in_ok-outline.ensures.folds ∙ ap (λ (s : List Form × Bool). s.1) (same_sketch (signatures_of c.args.vars.now) (view c.args.sketch.now) (view c.args.tree.now) c.requires.same c.args.number c.requires.number)

pub returns-in_err-domain-clause-wide : goal.returns-in_err-domain-clause-wide
returns-in_err-domain-clause-wide c =
    let f = c.in_err-domain.field-0.0 in
    let set = set_of c.args.domain.now.dim (held c.args.domain.now.rows (part_at (parts (signatures_of c.args.vars.now) [] (view c.args.tree.now)) c.args.number)) in
    let e = same_set c.in_ok-outline.outline.domain set c.in_ok-outline.ensures.dim (c.in_ok-outline.ensures.rows ∙ ap (λ (s : List Form × Bool). c.args.domain.now.rows ++ s.0) (same_sketch (signatures_of c.args.vars.now) (view c.args.sketch.now) (view c.args.tree.now) c.requires.same c.args.number c.requires.number)) in
    let p = err_from_is_err_and c.from_residual-in_err-domain.result c.from_residual-in_err-domain.ensures.1 in
    rw (p.1, p.2) (wide_here (of_set set) [] f (subst (λ (b : Set). IsWideOne (of_set b) f) e c.in_err-domain.ensures.wide))

pub returns-clause-narrow : goal.returns-clause-narrow
returns-clause-narrow c =
    let set = set_of c.args.domain.now.dim (held c.args.domain.now.rows (part_at (parts (signatures_of c.args.vars.now) [] (view c.args.tree.now)) c.args.number)) in
    let e = same_set c.in_ok-outline.outline.domain set c.in_ok-outline.ensures.dim (c.in_ok-outline.ensures.rows ∙ ap (λ (s : List Form × Bool). c.args.domain.now.rows ++ s.0) (same_sketch (signatures_of c.args.vars.now) (view c.args.sketch.now) (view c.args.tree.now) c.requires.same c.args.number c.requires.number)) in
    subst (λ (b : Set). IsNarrow (of_set b)) e c.in_ok-domain.ensures.narrow

pub returns-clause-made : goal.returns-clause-made
returns-clause-made c =
    let set = set_of c.args.domain.now.dim (held c.args.domain.now.rows (part_at (parts (signatures_of c.args.vars.now) [] (view c.args.tree.now)) c.args.number)) in
    let e = same_set c.in_ok-outline.outline.domain set c.in_ok-outline.ensures.dim (c.in_ok-outline.ensures.rows ∙ ap (λ (s : List Form × Bool). c.args.domain.now.rows ++ s.0) (same_sketch (signatures_of c.args.vars.now) (view c.args.sketch.now) (view c.args.tree.now) c.requires.same c.args.number c.requires.number)) in
    record {
      domain = subst (λ (b : Set). IsNormalised b c.in_ok-domain.domain) e (record { dim = c.in_ok-domain.ensures.dim; rows = c.in_ok-domain.ensures.normalised });
      tree = c.in_ok-tree.ensures;
      small = c.in_ok-domain.ensures.limits;
    }
