use Rattle.std.proofs.Common.{All, sym, subst}
use Rattle.std.proofs.lemmas.List.Elements.{All-weaker}
use Rattle.std.proofs.lemmas.Result.{IfOk-weaker}
use Rattle.av_flat.specs.Trees.{view_system}
use Rattle.av_flat.specs.Nodes.{IsComputation}
use Rattle.av_space.specs.inner.Laying.{IsTimely, AreNodePoints}
use Rattle.av_space.proofs.Nodes.{time_at}
use Rattle.av_space.proofs.Grouped.{timely_of, ranked_are}
use Rattle.av_space.proofs.ranked.node_ranked.Goals as goal

pub in_order-requires-clause-few : goal.in_order-requires-clause-few
in_order-requires-clause-few c = (time_at c.args.timed.now c.args.node.0 c.args.placement.now.time c.node_points.ensures.legal c.requires.time).few

pub in_order-requires-clause-timely : goal.in_order-requires-clause-timely
in_order-requires-clause-timely c =
    let t = c.args.timed.now in
    let p = c.args.placement.now in
    subst (All (IsTimely p)) (sym c.as_slice.ensures) (All-weaker (IsComputation (view_system t.flat) c.args.node.0) (IsTimely p) (λ z k. timely_of t c.args.node.0 p z c.node_points.ensures.legal c.requires.time c.requires.ends k) c.in_ok-points.points c.in_ok-points.ensures.points.each)

pub returns-clause-ranked : goal.returns-clause-ranked
returns-clause-ranked c =
    let t = c.args.timed.now in
    let s = view_system t.flat in
    let p = c.args.placement.now in
    let points = c.as_slice.result.now in
    let are = subst (AreNodePoints s c.args.node.0) (sym c.as_slice.ensures) c.in_ok-points.ensures.points in
    IfOk-weaker c.in_order.result _ _ (λ v h. ranked_are t c.args.node.0 p c.node_points.ensures.legal c.requires.placing c.requires.time c.requires.ends points v.items are h.0 h.1) c.in_order.ensures
