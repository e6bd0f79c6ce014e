use Rattle.std.proofs.Common.{◌∙◌}
use Rattle.av_names.proofs.Summed.{greatest_of_rows}
use Rattle.av_names.proofs.measure.row_coefficient.Goals as goal

pub returns-in_default : goal.returns-in_default
returns-in_default c = λ sizes.
    let k = c.args.constraint.now in
    (rw (c.as_slice.ensures, c.as_slice-in_default.ensures) at c.greatest_of_differences.ensures)
    ∙ greatest_of_rows sizes c.args.names.now k.left k.right k.relation c.in_default.not-Unequal
