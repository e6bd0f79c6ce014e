use Rattle.std.proofs.Common.{◌≡◌, ◌∙◌, ◌++◌, List, ap, rules, []}
use Rattle.av_affine.specs.declared.form.Form.{Form}
use Rattle.av_flat.specs.Trees.{view}
use Rattle.av_flat.specs.Pieces.{parts}
use Rattle.av_normal.specs.inner.Numbered.{part_at}
use Rattle.av_normal.proofs.outline.outline_at.Goals as goal

pub returns-clause-rows : goal.returns-clause-rows
returns-clause-rows c =
    let made = c.in_ok-folds.ensures.part c.requires.number c.requires.few in
    let copied : c.as_slice.result.now ≡ c.args.domain.now.rows = search rules in
    made.0 ∙ ap (λ (rows : List Form). rows ++ (part_at (parts [] [] (view c.args.sketch.now)) c.args.number).rows) (c.in_ok-rows.ensures ∙ copied)

pub returns-clause-folds : goal.returns-clause-folds
returns-clause-folds c = (c.in_ok-folds.ensures.part c.requires.number c.requires.few).1
