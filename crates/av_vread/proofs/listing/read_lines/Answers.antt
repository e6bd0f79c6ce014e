use Rattle.std.proofs.Common.{inl, inr}
use Rattle.std.proofs.lemmas.Result.{err_from_is_err_and}
use Rattle.av_net.specs.Rows.{is_in}
use Rattle.av_vread.proofs.LineWalks.{reads_next, reads_bad, reads_all}
use Rattle.av_vread.proofs.listing.read_lines.Goals as goal
use Rattle.av_vread.proofs.listing.read_lines.Goals.{then-loop-number-test+else-at-bytes, else-loop-number-test}

pub returns-in_err-push_line : goal.returns-in_err-push_line
returns-in_err-push_line c =
    let p = err_from_is_err_and c.from_residual.result c.from_residual.ensures.1 in
    rw (p.1, p.2)
    (reads_bad (is_in c.args.ports.now) (is_in c.args.wires.now) c.args.bytes.now c.args.first c.loop-number.at c.loop-number.number c.loop-number.listing c.loop-number.invariant c.loop-number-test.true
    c.if-at-bytes.true c.line_at-line.result.text.now c.line_at-line.ensures.text c.in_err-push_line.field-0.0 c.in_err-push_line.ensures)

pub loop-number-preserved : goal.loop-number-preserved
loop-number-preserved c =
    reads_next (is_in c.args.ports.now) (is_in c.args.wires.now) c.args.bytes.now c.args.first c.loop-number.at c.loop-number.number c.loop-number.listing c.loop-number.invariant c.loop-number-test.true
    c.if-at-bytes.true c.line_at-line.result.text.now c.line_at-line.ensures.text c.push_line.new.listing c.line_at-line.result.len c.line_at-line.ensures.len c.line_at-line.ensures.within
    c.in_ok-push_line.ensures

pub returns : goal.returns
returns c =
    reads_all (is_in c.args.ports.now) (is_in c.args.wires.now) c.args.bytes.now c.args.first c.loop-number.at c.loop-number.number c.loop-number.listing c.loop-number.invariant
    (elim c.loop-number-test.branch [
      | then-loop-number-test+else-at-bytes w ↦ inr w.if-at-bytes.false
      | else-loop-number-test w ↦ inl w.loop-number-test.false
    ])
