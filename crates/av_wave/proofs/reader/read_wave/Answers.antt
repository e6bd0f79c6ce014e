use Rattle.std.proofs.Common.{arith}
use Rattle.av_wave.proofs.Faults.{nothing_read}
use Rattle.av_wave.proofs.Reading.{IsLineAt, line_at, line_small, line_taken, taken, not_taken, known, faulty, faulty_end, answers_wave}
use Rattle.av_wave.proofs.reader.read_wave.Goals as goal

pub loop-at-init : goal.loop-at-init
loop-at-init c = (nothing_read c.args.bytes.now, omega arith, c.new-names.ensures)

pub take-requires : goal.take-requires
take-requires c = c.loop-at.invariant.2

pub overflow_add-line : goal.overflow_add-line
overflow_add-line c = omega (arith, line_small c.loop-at.invariant.0 c.loop-at-test.true c.requires)

pub overflow_add-at : goal.overflow_add-at
overflow_add-at c =
    let here : IsLineAt c.args.bytes.now c.loop-at.at c.first_line-text.result.now = line_at c.args.bytes.now c.first_line-text.result.now c.loop-at.at c.loop-at-test.true c.first_line-text.ensures in
    omega (arith, here.within, c.requires)

pub loop-at-preserved : goal.loop-at-preserved
loop-at-preserved c =
    let text = c.first_line-text.result.now in
    let here : IsLineAt c.args.bytes.now c.loop-at.at text = line_at c.args.bytes.now text c.loop-at.at c.loop-at-test.true c.first_line-text.ensures in (
      line_taken c.args.bytes.now text c.loop-at.at c.loop-at.line c.loop-at.stage c.in-Some.next c.loop-at.invariant.0 here (taken c.in_ok-next.field-0 c.loop-at.stage c.in-Some.next text c.in-Some.is c.in_ok-next.ensures.turns),
      here.within,
      known c.in_ok-next.field-0 c.in-Some.next c.take.new.names c.in-Some.is c.in_ok-next.ensures.names,
    )

pub loop-at-smaller : goal.loop-at-smaller
loop-at-smaller c =
    let here : IsLineAt c.args.bytes.now c.loop-at.at c.first_line-text.result.now = line_at c.args.bytes.now c.first_line-text.result.now c.loop-at.at c.loop-at-test.true c.first_line-text.ensures in
    omega (arith, here.within, here.some)

-- a line that may not stand where it stands
pub returns-in_default-clause-only : goal.returns-in_default-clause-only
returns-in_default-clause-only c =
    let text = c.first_line-text.result.now in
    let here : IsLineAt c.args.bytes.now c.loop-at.at text = line_at c.args.bytes.now text c.loop-at.at c.loop-at-test.true c.first_line-text.ensures in
    (faulty c.args.bytes.now text c.loop-at.at c.loop-at.line c.loop-at.stage c.loop-at.invariant.0 here (not_taken c.in_ok-next.field-0 c.loop-at.stage text c.in_default.not-Some c.in_ok-next.ensures.turns)).only

pub returns-in_default-clause-fault : goal.returns-in_default-clause-fault
returns-in_default-clause-fault c =
    let text = c.first_line-text.result.now in
    let here : IsLineAt c.args.bytes.now c.loop-at.at text = line_at c.args.bytes.now text c.loop-at.at c.loop-at-test.true c.first_line-text.ensures in
    (faulty c.args.bytes.now text c.loop-at.at c.loop-at.line c.loop-at.stage c.loop-at.invariant.0 here (not_taken c.in_ok-next.field-0 c.loop-at.stage text c.in_default.not-Some c.in_ok-next.ensures.turns)).fault

pub returns-in_default-clause-refused : goal.returns-in_default-clause-refused
returns-in_default-clause-refused c =
    let text = c.first_line-text.result.now in
    let here : IsLineAt c.args.bytes.now c.loop-at.at text = line_at c.args.bytes.now text c.loop-at.at c.loop-at-test.true c.first_line-text.ensures in
    (faulty c.args.bytes.now text c.loop-at.at c.loop-at.line c.loop-at.stage c.loop-at.invariant.0 here (not_taken c.in_ok-next.field-0 c.loop-at.stage text c.in_default.not-Some c.in_ok-next.ensures.turns)).refused

-- the end of a dump
pub returns-in-Some-wave-clause-found : goal.returns-in-Some-wave-clause-found
returns-in-Some-wave-clause-found c = (answers_wave c.args.bytes.now c.loop-at.at c.loop-at.line c.loop-at.stage c.in-Some-wave.wave c.loop-at.invariant.0 c.loop-at-test.false c.in-Some-wave.ensures.some).found

pub returns-in-Some-wave-clause-only : goal.returns-in-Some-wave-clause-only
returns-in-Some-wave-clause-only c = (answers_wave c.args.bytes.now c.loop-at.at c.loop-at.line c.loop-at.stage c.in-Some-wave.wave c.loop-at.invariant.0 c.loop-at-test.false c.in-Some-wave.ensures.some).only

pub returns-in-Some-wave-clause-refused : goal.returns-in-Some-wave-clause-refused
returns-in-Some-wave-clause-refused c = (answers_wave c.args.bytes.now c.loop-at.at c.loop-at.line c.loop-at.stage c.in-Some-wave.wave c.loop-at.invariant.0 c.loop-at-test.false c.in-Some-wave.ensures.some).refused

-- and of bytes that end too early
pub returns-clause-only : goal.returns-clause-only
returns-clause-only c = (faulty_end c.args.bytes.now c.loop-at.at c.loop-at.line c.loop-at.stage c.loop-at.invariant.0 c.loop-at-test.false c.in-None.ensures.none).only

pub returns-clause-fault : goal.returns-clause-fault
returns-clause-fault c = (faulty_end c.args.bytes.now c.loop-at.at c.loop-at.line c.loop-at.stage c.loop-at.invariant.0 c.loop-at-test.false c.in-None.ensures.none).fault

pub returns-clause-refused : goal.returns-clause-refused
returns-clause-refused c = (faulty_end c.args.bytes.now c.loop-at.at c.loop-at.line c.loop-at.stage c.loop-at.invariant.0 c.loop-at-test.false c.in-None.ensures.none).refused
