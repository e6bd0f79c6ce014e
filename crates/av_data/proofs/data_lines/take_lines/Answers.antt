use Rattle.std.proofs.Common.{◌≡◌, ℕ, ◌+◌, ◌<◌, ◌≤◌, length, drop, List, [], ◌∷◌, ◌++◌, ap, subst, ◌∙◌, arith}
use Rattle.std.proofs.lemmas.Result.{err_from_is_err_and}
use Rattle.av_flat.specs.Trees.{view_system}
use Rattle.av_data.specs.Reading.{first_line, line_size}
use Rattle.av_data.specs.inner.ReadData.{IsCause, HasRead}
use Rattle.av_data.proofs.Turns.{size_left}
use Rattle.av_data.proofs.Linewise.{taken_none, taken_more, taken_all, taken_fault}
use Rattle.av_data.proofs.data_lines.take_lines.Goals as goal

pub loop-at-init : goal.loop-at-init
loop-at-init c = (taken_none (view_system c.args.flat.now) c.args.first c.args.bytes.now c.args.words.now c.requires.none, omega arith, omega arith)

pub returns-in_err-take_line-clause-err : goal.returns-in_err-take_line-clause-err
returns-in_err-take_line-clause-err c =
    let p = err_from_is_err_and c.from_residual.result c.from_residual.ensures.1 in
    let s = view_system c.args.flat.now in
    let so = c.loop-at.invariant.0 in
    let text = c.first_line-size.ensures.line ∙ ap first_line c.from.ensures in
    rw (p.1, p.2)
    (taken_fault s c.args.first c.args.bytes.now c.loop-at.words c.loop-at.line c.loop-at.at so c.in_err-take_line.field-0.0 c.loop-at-test.true
    (subst (λ (t : List ℕ). IsCause s so.done c.loop-at.line t c.in_err-take_line.field-0.0) text (c.in_err-take_line.ensures.err so.done so.read)))

pub overflow_add-at : goal.overflow_add-at
overflow_add-at c =
    let size = size_left c.args.bytes.now c.loop-at.at c.loop-at-test.true in
    let is : c.first_line-size.result.1 ≡ line_size (drop c.loop-at.at c.args.bytes.now) = c.first_line-size.ensures.size ∙ ap line_size c.from.ensures in
    omega (arith, size.1, is, c.requires.lines)

pub loop-at-smaller : goal.loop-at-smaller
loop-at-smaller c =
    let size = size_left c.args.bytes.now c.loop-at.at c.loop-at-test.true in
    let is : c.first_line-size.result.1 ≡ line_size (drop c.loop-at.at c.args.bytes.now) = c.first_line-size.ensures.size ∙ ap line_size c.from.ensures in
    let lt : c.loop-at.at < length c.args.bytes.now = c.loop-at-test.true in
    omega (arith, size.0, size.1, is, lt)

pub loop-at-preserved : goal.loop-at-preserved
loop-at-preserved c =
    let s = view_system c.args.flat.now in
    let so = c.loop-at.invariant.0 in
    let size = size_left c.args.bytes.now c.loop-at.at c.loop-at-test.true in
    let is : c.first_line-size.result.1 ≡ line_size (drop c.loop-at.at c.args.bytes.now) = c.first_line-size.ensures.size ∙ ap line_size c.from.ensures in
    let k : c.loop-at.line ≤ c.args.first + c.loop-at.at = c.loop-at.invariant.2 in
    let read = c.in_ok-take_line.ensures.ok so.done so.read in
    let text = c.first_line-size.ensures.line ∙ ap first_line c.from.ensures in
    let more = taken_more s c.args.first c.args.bytes.now c.loop-at.words c.loop-at.line c.loop-at.at so c.take_line.new.words c.loop-at-test.true
    (subst (λ (t : List ℕ). HasRead s (so.done ++ t ∷ []) c.take_line.new.words) text read) in (
      rw is more,
      omega (arith, size.1, is),
      omega (arith, size.0, is, k),
    )

pub returns-clause-ok : goal.returns-clause-ok
returns-clause-ok c = taken_all (view_system c.args.flat.now) c.args.first c.args.bytes.now c.loop-at.words c.loop-at.line c.loop-at.at c.loop-at.invariant.0 (omega (arith, c.loop-at-test.false))
