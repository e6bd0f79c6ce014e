use Rattle.std.proofs.Common.{◌∙◌, ap, ap₂, sym, subst, length}
use Rattle.std.specs.List.{All}
use Rattle.av_affine.specs.declared.square.Square.{Square}
use Rattle.av_affine.specs.Numbers.{AtMost}
use Rattle.av_affine.specs.Squares.{product, identity}
use Rattle.av_affine.specs.Completion.{first_row, rows_of, IsCompletion}
use Rattle.av_affine.proofs.Completing.{among, completed_first, completed_rows, completed_inverts, completed_most, inverse_most}
use Rattle.av_affine.proofs.completion.completion_of.Goals as goal

pub completed-requires-clause-pivot : goal.completed-requires-clause-pivot
completed-requires-clause-pivot c = among c.args.vector.now c.pivot_of-pivot.result c.pivot_of-pivot.ensures

pub inverted-requires-clause-pivot : goal.inverted-requires-clause-pivot
inverted-requires-clause-pivot c = among c.args.vector.now c.pivot_of-pivot.result c.pivot_of-pivot.ensures

pub returns-clause-first : goal.returns-clause-first
returns-clause-first c = ap first_row c.completed.ensures ∙ completed_first c.args.vector.now c.pivot_of-pivot.result c.requires.few c.pivot_of-pivot.ensures

pub returns-clause-rule : goal.returns-clause-rule
returns-clause-rule c =
    let v = c.args.vector.now in
    subst (λ (m : Square). IsCompletion v (rows_of m)) (sym c.completed.ensures) (completed_rows v c.pivot_of-pivot.result c.requires.few c.pivot_of-pivot.ensures)

pub returns-clause-right : goal.returns-clause-right
returns-clause-right c =
    ap₂ product c.completed.ensures c.inverted.ensures ∙ (completed_inverts c.args.vector.now c.pivot_of-pivot.result c.requires.few c.pivot_of-pivot.ensures).0
    ∙ sym (ap (λ (m : Square). identity m.size) c.completed.ensures)

pub returns-clause-left : goal.returns-clause-left
returns-clause-left c =
    ap₂ product c.inverted.ensures c.completed.ensures ∙ (completed_inverts c.args.vector.now c.pivot_of-pivot.result c.requires.few c.pivot_of-pivot.ensures).1
    ∙ sym (ap (λ (m : Square). identity m.size) c.completed.ensures)

pub returns-clause-small : goal.returns-clause-small
returns-clause-small c =
    let v = c.args.vector.now in (
      subst (λ (m : Square). All (AtMost 4) m.cells) (sym c.completed.ensures) (completed_most v c.pivot_of-pivot.result (length v) c.requires.small),
      subst (λ (m : Square). All (AtMost 4) m.cells) (sym c.inverted.ensures) (inverse_most v c.pivot_of-pivot.result (length v) c.requires.small c.pivot_of-pivot.ensures),
    )
