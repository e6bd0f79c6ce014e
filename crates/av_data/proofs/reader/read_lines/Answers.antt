use Rattle.std.proofs.Common.{◌≡◌, ◌+◌, ◌<◌, ◌≤◌, length, drop, ap, ◌∙◌, arith}
use Rattle.std.proofs.lemmas.Result.{err_from_is_err_and}
use Rattle.av_data.specs.Reading.{line_size, stimulus_of}
use Rattle.av_data.proofs.Turns.{size_left, cycles_read, cycles_failed, value_read, value_failed, ends_without, ends_with}
use Rattle.av_data.proofs.reader.read_lines.Goals as goal
use Rattle.av_data.proofs.reader.read_lines.Goals.{in-None+in_ok-cycles-in-None, in-Some+in_ok-value_at-in-Some}

pub returns-in_err-cycles-in-None : goal.returns-in_err-cycles-in-None
returns-in_err-cycles-in-None c =
    let p = err_from_is_err_and c.from_residual.result c.from_residual.ensures.1 in
    rw (p.1, p.2)
    (cycles_failed c.args.inputs.now c.args.bytes.now (stimulus_of c.args.inputs.now c.args.first c.args.bytes.now) c.loop-at.values c.loop-at.line c.loop-at.at c.in_err-cycles-in-None.field-0.0
    (rw c.in-None.is at c.loop-at.invariant.0) c.loop-at-test.true (rw (c.first_line-size.ensures.line, c.from.ensures) at c.in_err-cycles-in-None.ensures))

pub returns-in_err-value_at-in-Some : goal.returns-in_err-value_at-in-Some
returns-in_err-value_at-in-Some c =
    let p = err_from_is_err_and c.from_residual-in_err-value_at-in-Some.result c.from_residual-in_err-value_at-in-Some.ensures.1 in
    rw (p.1, p.2)
    (value_failed c.args.inputs.now c.args.bytes.now (stimulus_of c.args.inputs.now c.args.first c.args.bytes.now) c.in-Some.cycles c.loop-at.values c.loop-at.line c.loop-at.at c.in_err-value_at-in-Some.field-0.0
    (rw c.in-Some.is at c.loop-at.invariant.0) c.loop-at-test.true (rw (c.first_line-size.ensures.line, c.from.ensures) at c.in_err-value_at-in-Some.ensures.err))

pub overflow_add-at : goal.overflow_add-at
overflow_add-at c =
    let size = size_left c.args.bytes.now c.loop-at.at c.loop-at-test.true in
    let is : c.first_line-size.result.1 ≡ line_size (drop c.loop-at.at c.args.bytes.now) = c.first_line-size.ensures.size ∙ ap line_size c.from.ensures in
    omega (arith, size.1, is, c.requires)

pub loop-at-smaller : goal.loop-at-smaller
loop-at-smaller c =
    let size = size_left c.args.bytes.now c.loop-at.at c.loop-at-test.true in
    let is : c.first_line-size.result.1 ≡ line_size (drop c.loop-at.at c.args.bytes.now) = c.first_line-size.ensures.size ∙ ap line_size c.from.ensures in
    let lt : c.loop-at.at < length c.args.bytes.now = c.loop-at-test.true in
    omega (arith, size.0, size.1, is, lt)

pub loop-at-preserved : goal.loop-at-preserved
loop-at-preserved c =
    let size = size_left c.args.bytes.now c.loop-at.at c.loop-at-test.true in
    let is : c.first_line-size.result.1 ≡ line_size (drop c.loop-at.at c.args.bytes.now) = c.first_line-size.ensures.size ∙ ap line_size c.from.ensures in
    let k : c.loop-at.line ≤ c.args.first + c.loop-at.at = c.loop-at.invariant.2 in (
      elim c.match-cycles.branch [
        | in-None+in_ok-cycles-in-None w ↦
            rw (w.cycles-is, w.values-is, is)
            (cycles_read c.args.inputs.now c.args.bytes.now (stimulus_of c.args.inputs.now c.args.first c.args.bytes.now) c.loop-at.values c.loop-at.line c.loop-at.at w.in_ok-cycles-in-None.cycles
            (rw w.in-None.is at c.loop-at.invariant.0) c.loop-at-test.true (rw (c.first_line-size.ensures.line, c.from.ensures) at w.in_ok-cycles-in-None.ensures))
        | in-Some+in_ok-value_at-in-Some w ↦
            rw (w.cycles-is, w.values-is, is)
            (value_read c.args.inputs.now c.args.bytes.now (stimulus_of c.args.inputs.now c.args.first c.args.bytes.now) w.in-Some.cycles c.loop-at.values w.value_at.new.values c.loop-at.line c.loop-at.at
            (rw w.in-Some.is at c.loop-at.invariant.0) c.loop-at-test.true (rw (c.first_line-size.ensures.line, c.from.ensures) at w.in_ok-value_at-in-Some.ensures.ok))
      ],
      omega (arith, size.1, is),
      omega (arith, size.0, is, k),
    )

pub returns-in-None-cycles : goal.returns-in-None-cycles
returns-in-None-cycles c =
    ends_without c.args.inputs.now c.args.bytes.now (stimulus_of c.args.inputs.now c.args.first c.args.bytes.now) c.loop-at.values c.loop-at.line c.loop-at.at (rw c.in-None-cycles.is at c.loop-at.invariant.0) (omega arith)

pub returns : goal.returns
returns c =
    rw c.in_ok-list-in-Some-cycles.ensures
    (ends_with c.args.inputs.now c.args.bytes.now (stimulus_of c.args.inputs.now c.args.first c.args.bytes.now) c.in-Some-cycles.cycles c.loop-at.values c.loop-at.line c.loop-at.at (rw c.in-Some-cycles.is at c.loop-at.invariant.0) (omega arith))
