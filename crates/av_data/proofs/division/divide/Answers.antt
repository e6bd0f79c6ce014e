use Rattle.std.proofs.Common.{◌≡◌, ◌+◌, ◌≤◌, length, take, drop, sym, ap, ◌∙◌, arith}
use Rattle.std.proofs.lemmas.List.{length-drop}
use Rattle.av_data.specs.Divisions.{is_mark}
use Rattle.av_data.specs.Reading.{whole_size}
use Rattle.av_data.proofs.Divided.{line_at, line_some, walks_on, divided, unmarked}
use Rattle.av_data.proofs.division.divide.Goals as goal

pub returns-then-is_mark-clause-some : goal.returns-then-is_mark-clause-some
returns-then-is_mark-clause-some c =
    let size : c.whole_size-size.result ≡ whole_size (drop c.loop-at.at c.args.bytes.now) = c.whole_size-size.ensures.size ∙ ap whole_size c.from.ensures in
    let line : c.part.result.now ≡ line_at c.args.bytes.now c.loop-at.at = c.part.ensures ∙ ap (λ n. take n (drop c.loop-at.at c.args.bytes.now)) size in
    rw (c.from-then-is_mark.ensures, size)
    (divided c.args.bytes.now c.loop-at.at c.loop-at.lines c.loop-at.invariant c.loop-at-test.true (ap is_mark (sym line) ∙ sym c.is_mark.ensures ∙ c.if-is_mark.true))

pub loop-at-smaller : goal.loop-at-smaller
loop-at-smaller c =
    let size : c.whole_size-size.result ≡ whole_size (drop c.loop-at.at c.args.bytes.now) = c.whole_size-size.ensures.size ∙ ap whole_size c.from.ensures in
    let some = line_some c.args.bytes.now c.loop-at.at c.loop-at-test.true in
    omega (arith, size, some, c.loop-at-test.true)

pub loop-at-preserved : goal.loop-at-preserved
loop-at-preserved c =
    let size : c.whole_size-size.result ≡ whole_size (drop c.loop-at.at c.args.bytes.now) = c.whole_size-size.ensures.size ∙ ap whole_size c.from.ensures in
    let line : c.part.result.now ≡ line_at c.args.bytes.now c.loop-at.at = c.part.ensures ∙ ap (λ n. take n (drop c.loop-at.at c.args.bytes.now)) size in
    let within : c.loop-at.at + c.whole_size-size.result ≤ length c.args.bytes.now =
    omega (arith, c.whole_size-size.ensures.within, ap length c.from.ensures, length-drop c.loop-at.at c.args.bytes.now, c.loop-at-test.true) in
    rw size
    (walks_on c.args.bytes.now c.loop-at.at c.loop-at.lines c.loop-at.invariant c.loop-at-test.true (rw (sym size) within) (ap is_mark (sym line) ∙ sym c.is_mark.ensures ∙ c.if-is_mark.false))

pub returns-clause-none : goal.returns-clause-none
returns-clause-none c = unmarked c.args.bytes.now c.loop-at.at c.loop-at.lines c.loop-at.invariant (omega arith)
