use Rattle.std.proofs.Common.{rules, ◌≡◌, ◌<◌, ◌≤◌, ◌∙◌, ap, length, arith}
use Rattle.av_flat.specs.Trees.{view_system}
use Rattle.av_flat.specs.Nodes.{nodes}
use Rattle.av_sched.proofs.Listing.{size_fits, length_sizes}
use Rattle.av_sched.proofs.Parting.{parts_to_more, parts_to_all}
use Rattle.av_sched.proofs.part.first_parts.Goals as goal

pub unit-requires : goal.unit-requires
unit-requires c =
    let s = view_system c.args.flat.now in
    let dims = c.in_ok-dims.dims.items in
    let l : c.loop-k.k < length dims = search rules in
    let same : length dims ≡ length (nodes s) = ap length c.in_ok-dims.ensures ∙ length_sizes s.variables in
    size_fits s dims c.loop-k.k c.index.result.now c.requires (omega (arith, l, same)) c.in_ok-dims.ensures c.index.ensures

pub loop-k-preserved : goal.loop-k-preserved
loop-k-preserved c box least =
    let s = view_system c.args.flat.now in
    rw c.in_ok-push.ensures.items
    (parts_to_more s box c.loop-k.k c.loop-k.parts.items c.in_ok-dims.dims.items c.index.result.now c.unit.result c.in_ok-dims.ensures c.index.ensures (c.unit.ensures box least) (c.loop-k.invariant box least))

pub returns : goal.returns
returns c box least =
    let s = view_system c.args.flat.now in
    let dims = c.in_ok-dims.dims.items in
    let over : length dims ≤ c.loop-k.k = search rules in
    let under : c.loop-k.k ≤ length dims = search rules in
    parts_to_all s box c.loop-k.k c.loop-k.parts.items dims c.in_ok-dims.ensures over under (c.loop-k.invariant box least)
