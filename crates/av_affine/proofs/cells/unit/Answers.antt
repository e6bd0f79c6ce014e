use Rattle.std.proofs.Common.{sym, ◌∙◌, ap}
use Rattle.av_affine.specs.Cells.{delta}
use Rattle.av_affine.proofs.Sums.{delta_same, delta_apart}
use Rattle.av_affine.proofs.cells.unit.Goals as goal

pub returns-then-position-index : goal.returns-then-position-index
returns-then-position-index c = sym (ap (delta c.args.position) (sym c.if-position-index.true) ∙ delta_same c.args.position)

pub returns-else-position-index : goal.returns-else-position-index
returns-else-position-index c = sym (delta_apart c.args.position c.args.index c.if-position-index.false)
