use Rattle.std.proofs.Common.{◌<◌, refl, sym, subst, length, get_or, ◌+◌, arith}
use Rattle.std.proofs.lemmas.Grind.{common_steps}
use Rattle.av_flat.specs.Trees.{view_system}
use Rattle.av_flat.specs.Nodes.{nodes}
use Rattle.av_sched.specs.inner.Walk.{AreAllPartsTo}
use Rattle.av_sched.proofs.Listing.{size_fits, lists_more}
use Rattle.av_sched.proofs.node.lists_of.Goals as goal
use Rattle.av_base.proofs.Lists.{same_default}

pub vectors-requires : goal.vectors-requires
vectors-requires c =
    let s = view_system c.args.flat.now in
    let n = get_or c.args.component.now c.loop-k.k 0 in
    let within : n < length (nodes s) = c.requires.within c.loop-k.k 0 c.loop-k-test.true in
    size_fits s c.in_ok-dims.dims.items n c.index.result.now c.requires.chained within c.in_ok-dims.ensures c.index.ensures

pub loop-k-preserved : goal.loop-k-preserved
loop-k-preserved c =
    let s = view_system c.args.flat.now in
    let component = c.args.component.now in
    let l : c.loop-k.k < length component = c.loop-k-test.true in
    let n = get_or component c.loop-k.k 0 in
    subst (AreAllPartsTo s c.args.reach.size component (c.loop-k.k + 1)) (sym c.in_ok-push.ensures.ok)
    (lists_more s c.args.reach.size component c.loop-k.k c.loop-k.lists c.in_ok-list.list c.in_ok-dims.dims.items n n c.index.result.now l (same_default component c.loop-k.k 0 n l) refl c.in_ok-dims.ensures c.index.ensures c.in_ok-list.ensures c.loop-k.invariant)

pub loop-k-init : goal.loop-k-init
loop-k-init c = grind (arith, common_steps)
