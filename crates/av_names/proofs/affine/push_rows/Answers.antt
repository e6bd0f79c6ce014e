use Rattle.std.proofs.Common.{pos, [], ◌∷◌, arith}
use Rattle.std.proofs.lemmas.List.Elements.{All-head, All-tail}
use Rattle.std.proofs.lemmas.Grind.{common_steps}
use Rattle.av_affine.specs.Forms.{IsWithinLimits}
use Rattle.av_tree.specs.Rows as rows
use Rattle.av_names.specs.Forms.{form_of_row}
use Rattle.av_names.specs.inner.Sums.{sizes_in}
use Rattle.av_names.proofs.affine.push_rows.Goals as goal

pub strict_row-requires-clause-fits : goal.strict_row-requires-clause-fits
strict_row-requires-clause-fits c =
    All-head IsWithinLimits (form_of_row (rows.at_least (sizes_in c.args.sizes.now) c.args.names.now c.args.constraint.now.right c.args.constraint.now.left (pos 1))) [] (rw c.in-Less.is at c.requires.fits.1)

pub row-requires-clause-fits : goal.row-requires-clause-fits
row-requires-clause-fits c =
    All-head IsWithinLimits (form_of_row (rows.at_least (sizes_in c.args.sizes.now) c.args.names.now c.args.constraint.now.right c.args.constraint.now.left (pos 0))) [] (rw c.in-LessEqual.is at c.requires.fits.1)

pub strict_row-requires-in-Greater-clause-fits : goal.strict_row-requires-in-Greater-clause-fits
strict_row-requires-in-Greater-clause-fits c =
    All-head IsWithinLimits (form_of_row (rows.at_least (sizes_in c.args.sizes.now) c.args.names.now c.args.constraint.now.left c.args.constraint.now.right (pos 1))) [] (rw c.in-Greater.is at c.requires.fits.1)

pub row-requires-in-GreaterEqual-clause-fits : goal.row-requires-in-GreaterEqual-clause-fits
row-requires-in-GreaterEqual-clause-fits c =
    All-head IsWithinLimits (form_of_row (rows.at_least (sizes_in c.args.sizes.now) c.args.names.now c.args.constraint.now.left c.args.constraint.now.right (pos 0))) [] (rw c.in-GreaterEqual.is at c.requires.fits.1)

pub row-requires-in-Equal-clause-fits : goal.row-requires-in-Equal-clause-fits
row-requires-in-Equal-clause-fits c =
    let k = c.args.constraint.now in
    let s = sizes_in c.args.sizes.now in
    All-head IsWithinLimits (form_of_row (rows.at_least s c.args.names.now k.left k.right (pos 0))) (form_of_row (rows.at_least s c.args.names.now k.right k.left (pos 0)) ∷ []) (rw c.in-Equal.is at c.requires.fits.1)

pub row-requires-in-Equal-2-clause-fits : goal.row-requires-in-Equal-2-clause-fits
row-requires-in-Equal-2-clause-fits c =
    let k = c.args.constraint.now in
    let s = sizes_in c.args.sizes.now in
    All-head IsWithinLimits (form_of_row (rows.at_least s c.args.names.now k.right k.left (pos 0))) []
    (All-tail IsWithinLimits (form_of_row (rows.at_least s c.args.names.now k.left k.right (pos 0))) (form_of_row (rows.at_least s c.args.names.now k.right k.left (pos 0)) ∷ []) (rw c.in-Equal.is at c.requires.fits.1))

pub returns-in_ok-push-in-Equal : goal.returns-in_ok-push-in-Equal
returns-in_ok-push-in-Equal c = grind (arith, common_steps)
