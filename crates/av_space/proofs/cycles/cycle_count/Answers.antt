use Rattle.std.proofs.Common.{◌≤ℤ◌, pos, All, sym, subst, arith}
use Rattle.std.proofs.lemmas.List.Elements.{All-weaker}
use Rattle.av_affine.specs.Numbers.{AtMost}
use Rattle.av_flat.specs.Trees.{view_system}
use Rattle.av_flat.specs.Nodes.{IsComputation}
use Rattle.av_flat.specs.Schedules.{cycle}
use Rattle.av_space.specs.inner.Laying.{AreNodePoints}
use Rattle.av_space.proofs.Nodes.{computed_small, computed_within}
use Rattle.av_space.proofs.Counts.{count_more, count_whole}
use Rattle.av_space.proofs.cycles.cycle_count.Goals as goal

pub raised-count-requires-clause-small : goal.raised-count-requires-clause-small
raised-count-requires-clause-small c =
    let n = c.loop-node.node in
    subst (All (AtMost 4095)) (sym c.as_slice.ensures)
    (All-weaker (IsComputation (view_system c.args.timed.now.flat) n) (AtMost 4095) (λ z k. (computed_small c.args.timed.now n z c.time-time.ensures.legal k).small) c.in_ok-points.points c.in_ok-points.ensures.points.each)

pub raised-count-requires-clause-starts : goal.raised-count-requires-clause-starts
raised-count-requires-clause-starts c =
    let n = c.loop-node.node in
    let t = c.time-time.result.now in
    subst (All (λ z. pos 0 ≤ℤ cycle t z)) (sym c.as_slice.ensures)
    (All-weaker (IsComputation (view_system c.args.timed.now.flat) n) (λ z. pos 0 ≤ℤ cycle t z) (λ z k. c.time-time.ensures.legal.schedule.starts n z t k c.time-time.ensures.is) c.in_ok-points.points c.in_ok-points.ensures.points.each)

pub loop-node-preserved : goal.loop-node-preserved
loop-node-preserved c =
    let s = view_system c.args.timed.now.flat in
    let now = subst (AreNodePoints s c.loop-node.node) (sym c.as_slice.ensures) c.in_ok-points.ensures.points in
    record {
      so_far = count_more s c.args.timed.now.times c.loop-node.node c.loop-node.count c.raised-count.result c.time-time.result.now c.as_slice.result.now c.time-time.ensures.is now c.raised-count.ensures.from c.raised-count.ensures.above c.raised-count.ensures.least c.loop-node.invariant.so_far;
      fits = c.raised-count.ensures.fits;
    }

pub returns : goal.returns
returns c =
    let s = view_system c.args.timed.now.flat in
    let n = c.len-node-end.ensures.count in
    let t = c.loop-node-test.false in
    count_whole s c.args.timed.now.times c.loop-node.node c.loop-node.count (λ k z h. let l = computed_within s k z h in omega (arith, l, n, t)) c.loop-node.invariant.so_far
