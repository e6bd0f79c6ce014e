use Rattle.std.proofs.Common.{◌≡◌, List, length, refl, subst, ap, arith, rules}
use Rattle.std.specs.Prelude.{max}
use Rattle.av_flat.specs.Trees.{view_system}
use Rattle.av_space.specs.declared.cells.Cell.{Cell}
use Rattle.av_space.specs.Occupancy.{IsUsed}
use Rattle.av_space.proofs.ByPlace.{read_at}
use Rattle.av_base.proofs.Lists.{all_at}
use Rattle.av_build.proofs.WithinCount.{few_cycles_of}
use Rattle.av_stream.proofs.PeriodSteps.{HasPeriodTo, none_yet, next_period, whole_period}
use Rattle.av_stream.proofs.spans.period.Goals as goal

pub loop-cell-init : goal.loop-cell-init
loop-cell-init c = none_yet c.args.timed.now c.as_slice-cell-items.result.now

pub span-requires-clause-used : goal.span-requires-clause-used
span-requires-clause-used c =
    let list = c.requires.whole.list in
    let k = c.loop-cell.cell-index in
    let cell = c.cell-item.result in
    let there = read_at c.args.cells.now.cells c.as_slice-cell-items.result.now k cell c.as_slice-cell-items.ensures c.loop-cell-test.true c.cell-item.is in
    record {
      placings = list.placings;
      are_placings = list.are_placings;
      used = all_at (IsUsed (view_system c.args.timed.now.flat) list.placings) c.args.cells.now.cells k cell list.cells.each there;
    }

pub span-requires-clause-cycles : goal.span-requires-clause-cycles
span-requires-clause-cycles c = c.requires.whole.list.cycles

pub span-requires-clause-few : goal.span-requires-clause-few
span-requires-clause-few c = few_cycles_of c.args.timed.now c.args.cells.now c.requires.whole c.requires.within

pub loop-cell-preserved : goal.loop-cell-preserved
loop-cell-preserved c =
    let items = c.as_slice-cell-items.result.now in
    let k = c.loop-cell.cell-index in
    let cell = c.cell-item.result in
    let there = read_at items items k cell refl c.loop-cell-test.true c.cell-item.is in
    let next : c.max-period.result ≡ max c.loop-cell.period c.span.result = search rules in
    next_period c.args.timed.now items k cell there c.span.result c.span.ensures c.loop-cell.period c.max-period.result next c.loop-cell.invariant

pub returns : goal.returns
returns c =
    let list = c.requires.whole.list in
    let items = c.as_slice-cell-items.result.now in
    let k = c.loop-cell.cell-index in
    let long = ap length c.as_slice-cell-items.ensures in
    whole_period c.args.timed.now c.args.cells.now list.placings list.are_placings k c.loop-cell.period (omega (arith, long, c.loop-cell-test.false)) (omega (arith, long, c.loop-cell.auto.cell-index-end))
    (subst (λ (cells : List Cell). HasPeriodTo c.args.timed.now cells k c.loop-cell.period) c.as_slice-cell-items.ensures c.loop-cell.invariant)
