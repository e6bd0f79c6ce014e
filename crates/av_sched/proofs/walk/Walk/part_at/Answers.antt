use Rattle.std.proofs.Common.{◌≡◌, ◌<◌, length, sym, subst, arith}
use Rattle.av_sched.specs.inner.Walks.{Walk, part_at}
use Rattle.av_sched.specs.inner.WalkInside.{walk_of}
use Rattle.av_sched.proofs.Covering.{node_fits, part_read}
use Rattle.av_sched.proofs.walk.Walk.part_at.Goals as goal

pub node-node-requires : goal.node-node-requires
node-node-requires c = subst (λ (w : Walk). c.args.level < length w.choices.component) (sym c.self.view_is) c.requires

pub index-requires : goal.index-requires
index-requires c =
    let w = c.self.inside in
    let fits = subst (λ (v : Walk). c.args.level < length v.choices.component) (sym c.self.view_is) c.requires in
    let within = node_fits w.choices.now c.args.level c.node-node.result.0 w.linear.items c.self.invariant.fits c.self.invariant.valid fits c.node-node.ensures in
    let long : w.linear.len ≡ length w.linear.items = w.linear.ok.0 in
    omega (arith, within, long)

pub returns : goal.returns
returns c =
    let w = c.self.inside in
    let fits = subst (λ (v : Walk). c.args.level < length v.choices.component) (sym c.self.view_is) c.requires in
    subst (λ (v : Walk). c.copy_point.result ≡ part_at v c.args.level) c.self.view_is
    (part_read (walk_of w) c.args.level c.node-node.result.0 c.index.result.now c.copy_point.result c.self.invariant.fits c.self.invariant.valid fits c.node-node.ensures c.index.ensures c.copy_point.ensures)
