use Rattle.std.proofs.Common.{◌≡◌, ℕ, ◌+◌, length, sym, ap, subst, ◌∙◌, arith}
use Rattle.av_flat.specs.declared.timed.Timed.{Timed}
use Rattle.av_flat.specs.Trees.{view_system, view_variable}
use Rattle.av_flat.specs.Nodes.{nodes}
use Rattle.av_space.specs.Taps.{taps}
use Rattle.av_space.specs.inner.Sites.{AreTapsTo}
use Rattle.av_space.proofs.NodeTaps.{taps_step}
use Rattle.av_space.proofs.linking.node_taps.Goals as goal

pub loop-node-preserved : goal.loop-node-preserved
loop-node-preserved c =
    let t = c.args.timed.now in
    let s = view_system t.flat in
    let v = view_variable c.variable-var.result.now in
    let here = c.in_ok-taps.ensures ∙ ap (λ (u : Timed). taps (view_system u.flat) u.helpers c.place.result.0 v) c.system.ensures in
    subst (AreTapsTo s t.helpers (c.loop-node.node + 1)) (sym c.in_ok-push.ensures.ok) (taps_step s t.helpers c.loop-node.node c.place.result.0 v c.place.ensures c.variable-var.ensures.is c.in_ok-taps.taps here c.loop-node.sites c.loop-node.invariant)

pub returns : goal.returns
returns c =
    let t = c.args.timed.now in
    let s = view_system t.flat in
    let count = c.len-node-end.ensures.count in
    let done = c.loop-node-test.false in
    let end = c.loop-node.auto.node-end in
    let k : c.loop-node.node ≡ length (nodes s) = omega (arith, count, done, end) in
    subst (λ (n : ℕ). AreTapsTo s t.helpers n c.loop-node.sites) k c.loop-node.invariant
