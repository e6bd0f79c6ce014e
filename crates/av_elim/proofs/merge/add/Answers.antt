use Rattle.std.proofs.Common.{◌∷◌, [], ◌++◌, ◌∙◌, ap, sym, subst, List}
use Rattle.std.proofs.lemmas.Result.{on_ok_weaker}
use Rattle.av_affine.specs.declared.form.Form.{Form}
use Rattle.av_poly.specs.Rational.{homogeneous}
use Rattle.av_elim.specs.inner.Rows.{line, IsReduced, StandsFor}
use Rattle.av_elim.proofs.Merging.{stands_after, stands_behind, stands_reduced}
use Rattle.av_elim.proofs.Loops.{homogeneous_push}
use Rattle.av_elim.proofs.merge.add.Goals as goal

-- the divided row stands for the row
reduced_last : (rows : List Form) (row new : Form) → IsReduced (line row) (line new) → StandsFor (homogeneous rows ++ line row ∷ []) (homogeneous rows ++ line new ∷ [])
reduced_last rows row new s = stands_behind (homogeneous rows) (line row ∷ []) (line new ∷ []) (stands_reduced (line row) (line new) s)

pub returns-then-replaced : goal.returns-then-replaced
returns-then-replaced c =
    let rows = c.args.rows.now in
    let row = c.args.row.now in
    let new = c.reduced-row.result in
    stands_after (homogeneous rows ++ line row ∷ []) (homogeneous rows ++ line new ∷ []) (homogeneous c.replaced.new.rows) (reduced_last rows row new c.reduced-row.ensures) (c.replaced.ensures.yes c.if-replaced.true)

pub returns-else-replaced : goal.returns-else-replaced
returns-else-replaced c =
    let rows = c.args.rows.now in
    let row = c.args.row.now in
    let new = c.reduced-row.result in
    let same = c.replaced.ensures.no c.if-replaced.false in
    on_ok_weaker c.push.result
    (λ e. subst (StandsFor (homogeneous rows ++ line row ∷ [])) (sym (ap homogeneous (e ∙ ap (λ (xs : List Form). xs ++ new ∷ []) same) ∙ homogeneous_push rows new)) (reduced_last rows row new c.reduced-row.ensures))
    c.push.ensures.ok
