use Rattle.std.proofs.Common.{sym, subst, Bool, List, length, ◌<◌, arith}
use Rattle.std.proofs.lemmas.Grind.{common_steps}
use Rattle.av_depend.specs.Components.{IsJoined}
use Rattle.av_depend.specs.inner.Reaching.{IsOpen, IsClosed}
use Rattle.av_depend.proofs.Marks.{IsSpread, spread_start, spread_more, spread_closed}
use Rattle.av_depend.proofs.reach.reached.Goals as goal

pub loop-node-init : goal.loop-node-init
loop-node-init c = subst (IsSpread c.args.nodes (IsJoined c.args.edges.now) c.args.from.0) (sym c.set.ensures)
    (spread_start c.args.nodes c.args.from.0 (IsJoined c.args.edges.now) c.in_ok-marks.marks c.in_ok-marks.ensures c.requires.from)

pub loop-node-preserved : goal.loop-node-preserved
loop-node-preserved c =
    let free = subst (λ (xs : List Bool). IsOpen c.args.edges.now xs c.in-Some.node.0) c.as_slice.ensures c.in-Some.ensures.found in
    let below = subst (λ (xs : List Bool). c.in-Some.node.0 < length xs) c.as_slice.ensures c.in-Some.ensures.below in
    subst (IsSpread c.args.nodes (IsJoined c.args.edges.now) c.args.from.0) (sym c.set-in-Some.ensures)
    (spread_more c.args.nodes c.args.from.0 c.in-Some.node.0 c.args.edges.now c.loop-node.marks c.loop-node.invariant free below)

pub returns : goal.returns
returns c = spread_closed c.args.nodes c.args.from.0 c.args.edges.now c.loop-node.marks c.loop-node.invariant (subst (IsClosed c.args.edges.now) c.as_slice.ensures c.in_default.ensures.closed)

pub set-requires : goal.set-requires
set-requires c = grind (arith, common_steps)

pub loop-node-smaller : goal.loop-node-smaller
loop-node-smaller c = grind (arith, common_steps)
