use Rattle.std.proofs.Common.{◌+◌, [], pos, drop, get_or, arith}
use Rattle.std.proofs.lemmas.Grind.{common_steps}
use Rattle.av_affine.specs.declared.form.Form.{Form}
use Rattle.av_poly.specs.Rational.{homogeneous}
use Rattle.av_elim.specs.inner.Rows.{line}
use Rattle.av_elim.proofs.Loops.{grown, next_row}
use Rattle.av_elim.proofs.shadow.gathered.Goals as goal

pub loop-row-preserved : goal.loop-row-preserved
loop-row-preserved c =
    let rows = c.args.rows.now in
    let i = c.loop-row.row-index in
    let none : Form = record { coef = []; constant = pos 0 } in
    grown (homogeneous c.loop-row.out) (homogeneous c.add.new.rows) (line (get_or rows i none)) (homogeneous (drop i rows)) (homogeneous (drop (i + 1) rows)) _ c.in_ok-add.ensures (next_row rows i none c.loop-row-test.true) c.loop-row.invariant

pub add-requires : goal.add-requires
add-requires c = grind (arith, common_steps)
