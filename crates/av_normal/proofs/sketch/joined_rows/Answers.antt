use Rattle.std.proofs.Common.{◌∙◌, ◌∷◌, ◌++◌, [], List, Bool, false, ap, subst, sym, All}
use Rattle.std.proofs.lemmas.List.Elements.{All-append}
use Rattle.av_affine.specs.declared.form.Form.{Form}
use Rattle.av_poly.specs.Points.{IsSmall}
use Rattle.av_flat.specs.Trees.{view}
use Rattle.av_normal.specs.inner.Sketches.{sketches, side_by_side}
use Rattle.av_normal.proofs.Outcomes.{if_ok}
use Rattle.av_normal.proofs.sketch.joined_rows.Goals as goal

pub returns-in_ok-append_rows-in-One-clause-sketch : goal.returns-in_ok-append_rows-in-One-clause-sketch
returns-in_ok-append_rows-in-One-clause-sketch c =
    let more : All IsSmall c.in-One.more = rw c.in-One.is at c.requires.second in
    let e = c.in_ok-append_rows-in-One.ensures ∙ ap (λ (ys : List Form). c.args.rows ++ ys) c.as_slice.ensures in
    subst (λ (xs : List Form). All IsSmall xs) (sym e) (All-append IsSmall c.args.rows c.in-One.more c.requires.rows more)

pub returns-in_ok-append_rows-in-One-clause-same : goal.returns-in_ok-append_rows-in-One-clause-same
returns-in_ok-append_rows-in-One-clause-same c =
    rw c.in-One.is (ap (λ (xs : List Form). (xs, false) ∷ []) (c.in_ok-append_rows-in-One.ensures ∙ ap (λ (ys : List Form). c.args.rows ++ ys) c.as_slice.ensures))

pub returns-in_ok-restriction-in-Many-clause-same : goal.returns-in_ok-restriction-in-Many-clause-same
returns-in_ok-restriction-in-Many-clause-same c =
    rw c.in-Many.is (if_ok c.paired.result c.paired.ensures.same (λ s e. e ∙ ap (λ (xs : List (List Form × Bool)). side_by_side xs (sketches [] [] (view c.in-Many.tree))) c.in_ok-restriction-in-Many.ensures.same))
