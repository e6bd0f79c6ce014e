use Rattle.std.proofs.Common.{rules, arith, subst, ℕ, Fits, w64}
use Rattle.av_space.specs.inner.Laying.{HasCellCount}
use Rattle.av_flat.specs.Trees.{view_system}
use Rattle.av_space.proofs.Laid.{no_count, count_joined}
use Rattle.av_space.proofs.laying.cell_count.Goals as goal

pub loop-node-init : goal.loop-node-init
loop-node-init c = record { number = no_count (view_system c.args.timed.now.flat) c.args.placements.now; some = omega arith; fits = omega arith }

pub loop-node-preserved : goal.loop-node-preserved
loop-node-preserved c =
    let k = c.in_ok-cells.ensures in
    let some = k.some in
    let x = c.loop-node.invariant in
    record {
      number = count_joined (view_system c.args.timed.now.flat) c.args.placements.now c.loop-node.node c.loop-node.count c.in_ok-cells.cells x.number (k.number c.args.placements.now c.placement_at-placement.ensures.is);
      some = omega (arith, some, x.some);
      fits = (let f : Fits w64 c.in_ok-cells.cells = search rules in omega (arith, f, x.fits));
    }

pub returns-clause-number : goal.returns-clause-number
returns-clause-number c =
    subst (λ (n : ℕ). HasCellCount (view_system c.args.timed.now.flat) c.args.placements.now 0 n c.loop-node.count) (omega (arith, c.loop-node-test.false, c.loop-node.auto.node-end, c.len-node-end.ensures.count)) c.loop-node.invariant.number
