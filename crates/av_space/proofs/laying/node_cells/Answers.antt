use Rattle.std.proofs.Common.{arith, sym, subst}
use Rattle.av_flat.specs.Trees.{view_system}
use Rattle.av_space.specs.inner.Laying.{AreRanked}
use Rattle.av_space.proofs.Laid.{counted_none, counted_more, counted_all, ranked_some}
use Rattle.av_space.proofs.laying.node_cells.Goals as goal

pub loop-start-init : goal.loop-start-init
loop-start-init c = counted_none c.args.node.0 c.args.placement.now c.as_slice-ranked.result.now

pub loop-start-preserved : goal.loop-start-preserved
loop-start-preserved c =
    let t = c.args.timed.now in
    let p = c.args.placement.now in
    let are = subst (AreRanked (view_system t.flat) c.args.node.0 p) (sym c.as_slice-ranked.ensures.value) c.in_ok-all.ensures.ranked in
    counted_more t c.args.node.0 p c.as_slice-ranked.result.now c.loop-start.start c.run_end-start.result c.loop-start.count c.node_ranked.ensures.legal c.requires.placing c.requires.time are c.loop-start-test.true c.run_end-start.ensures c.loop-start.invariant

pub loop-start-smaller : goal.loop-start-smaller
loop-start-smaller c = (let a = c.run_end-start.ensures.above in let l = c.loop-start-test.true in omega (arith, a, l))

pub returns-clause-number : goal.returns-clause-number
returns-clause-number c =
    let t = c.args.timed.now in
    let p = c.args.placement.now in
    let are = subst (AreRanked (view_system t.flat) c.args.node.0 p) (sym c.as_slice-ranked.ensures.value) c.in_ok-all.ensures.ranked in
    counted_all t c.args.node.0 p c.as_slice-ranked.result.now c.loop-start.start c.loop-start.count c.node_ranked.ensures.legal c.requires.placing c.requires.time are c.loop-start-test.false c.loop-start.invariant

pub returns-clause-some : goal.returns-clause-some
returns-clause-some c =
    let t = c.args.timed.now in
    let p = c.args.placement.now in
    let are = subst (AreRanked (view_system t.flat) c.args.node.0 p) (sym c.as_slice-ranked.ensures.value) c.in_ok-all.ensures.ranked in
    let l = ranked_some t c.args.node.0 p c.as_slice-ranked.result.now c.node_ranked.ensures.legal c.requires.within are in
    c.loop-start.invariant.some (omega (arith, l, c.loop-start-test.false))
