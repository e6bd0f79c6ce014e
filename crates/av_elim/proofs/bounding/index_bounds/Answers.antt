use Rattle.std.proofs.Common.{rules, arith, inl, inr, ⊎_elim, to_z-of_z, FitsSigned}
use mir.Syntax.{w128}
use Rattle.std.proofs.lemmas.Int.{ints}
use Rattle.av_poly.specs.Rational.{homogeneous}
use Rattle.av_elim.proofs.Answering.{no_point, endless_below, endless_above}
use Rattle.av_elim.proofs.Reaching.{next_void, next_some, gap_left, all_bounds}
use Rattle.av_elim.proofs.Constants.{points_between}
use Rattle.av_elim.proofs.bounding.index_bounds.Goals as goal
use Rattle.av_elim.proofs.bounding.index_bounds.Goals.{then-greatest-least, else-greatest-least}
use Rattle.av_base.proofs.Truths.{not_false, not_true}

pub returns-then-not-span-clause-refused : goal.returns-then-not-span-clause-refused
returns-then-not-span-clause-refused c = (c.requires.few, inl (no_point c.args.dim c.loop-index.index (homogeneous c.args.rows.now) c.in-Ok.span c.in-Ok.ensures (not_true c.in-Ok.span.flat c.if-not-span.true)))

pub returns-in-None-clause-refused : goal.returns-in-None-clause-refused
returns-in-None-clause-refused c =
    let rows = homogeneous c.args.rows.now in
    let flat = not_false c.in-Ok.span.flat c.if-not-span.false in
    ⊎_elim
    (λ e. let p = endless_below c.args.dim c.loop-index.index rows c.in-Ok.span c.in-Ok.ensures flat e in (c.requires.few, record { point = p.0; within = c.loop-index-test.true; endless = p.1; before = c.loop-index.invariant.finite }))
    (λ e. let p = endless_above c.args.dim c.loop-index.index rows c.in-Ok.span c.in-Ok.ensures flat e in (c.requires.few, record { point = p.0; within = c.loop-index-test.true; endless = p.1; before = c.loop-index.invariant.finite }))
    c.in-None.ensures.none

pub loop-index-preserved : goal.loop-index-preserved
loop-index-preserved c =
    let i = c.loop-index.index in
    let rows = homogeneous c.args.rows.now in
    let l = c.in-Some.both.0 in
    let h = c.in-Some.both.1 in
    let f : FitsSigned w128 l = search rules in
    let g : FitsSigned w128 h = search rules in
    let e = c.in-Some.ensures.some in
    let flat = not_false c.in-Ok.span.flat c.if-not-span.false in
    elim c.if-greatest-least.branch [
      | then-greatest-least w ↦ simp to_z-of_z (rw w.gap-is (next_void c.args.dim rows i c.loop-index.gap c.loop-index.low c.loop-index.high c.loop-index-test.true c.requires.dim c.loop-index.invariant c.in-Ok.span c.in-Ok.ensures l h flat e.0 e.1 (omega (arith, ints, w.if-greatest-least.true))))
      | else-greatest-least w ↦ simp to_z-of_z (rw w.gap-is (next_some c.args.dim rows i c.loop-index.gap c.loop-index.low c.loop-index.high c.loop-index-test.true c.requires.dim c.loop-index.invariant c.in-Ok.span c.in-Ok.ensures l h flat e.0 e.1 (omega (arith, ints, w.if-greatest-least.false))))
    ]

pub returns-then-gap-clause-refused : goal.returns-then-gap-clause-refused
returns-then-gap-clause-refused c = (c.requires.few, inr (gap_left c.args.dim c.loop-index.index c.args.rows.now c.loop-index.gap c.loop-index.low c.loop-index.high c.requires.some (omega arith) c.loop-index.invariant c.if-gap.true))

pub returns-else-gap-clause-found : goal.returns-else-gap-clause-found
returns-else-gap-clause-found c = all_bounds c.args.dim c.loop-index.index c.args.rows.now c.loop-index.gap c.loop-index.low c.loop-index.high c.requires.some (omega arith) c.loop-index.invariant c.if-gap.false

pub returns-else-gap-clause-inside : goal.returns-else-gap-clause-inside
returns-else-gap-clause-inside c = λ z h.
    let inv = c.loop-index.invariant in
    points_between (record { dim = c.args.dim; rows = c.args.rows.now }) (record { low = c.loop-index.low; high = c.loop-index.high }) z inv.low_size inv.high_size c.requires.dim
    (all_bounds c.args.dim c.loop-index.index c.args.rows.now c.loop-index.gap c.loop-index.low c.loop-index.high c.requires.some (omega arith) inv c.if-gap.false) h
