use Rattle.std.proofs.Common.{arith}
use Rattle.std.proofs.lemmas.Int.{ints}
use Rattle.std.proofs.lemmas.Grind.{common_steps, elements}
use Rattle.av_poly.proofs.Intervals.{interval_more}
use Rattle.av_poly.proofs.interval.interval_of.Goals as goal

pub loop-row-preserved : goal.loop-row-preserved
loop-row-preserved c =
    let s = c.loop-row.invariant in
    let above = s.above in
    let below = s.below in
    record {
      keeps = interval_more c.args.rows.now c.loop-row.row-index _ c.args.low.now c.args.high.now c.args.fixed.now _ _ _ _ (omega arith) s.keeps c.narrowed-span.ensures.keeps;
      above = omega (arith, ints, above, c.narrowed-span.ensures.above);
      below = omega (arith, ints, below, c.narrowed-span.ensures.below);
      small = c.narrowed-span.ensures.low;
    }

pub narrowed-span-requires-clause-later_low : goal.narrowed-span-requires-clause-later_low
narrowed-span-requires-clause-later_low c = grind (arith, elements)

pub narrowed-span-requires-clause-later_high : goal.narrowed-span-requires-clause-later_high
narrowed-span-requires-clause-later_high c = grind (arith, elements)

pub returns-clause-keeps : goal.returns-clause-keeps
returns-clause-keeps c = grind (arith, common_steps)

pub loop-row-init : goal.loop-row-init
loop-row-init c = grind (arith, common_steps)

pub narrowed-span-requires-clause-fixed : goal.narrowed-span-requires-clause-fixed
narrowed-span-requires-clause-fixed c = assumption

pub narrowed-span-requires-clause-row : goal.narrowed-span-requires-clause-row
narrowed-span-requires-clause-row c = grind (arith, common_steps)
