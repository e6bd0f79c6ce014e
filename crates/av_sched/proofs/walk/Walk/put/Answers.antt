use Rattle.std.proofs.Common.{◌≡◌, ◌<◌, length, sym, subst, arith}
use Rattle.av_sched.specs.inner.Walk.{known}
use Rattle.av_sched.specs.inner.Walks.{Walk, IsPartAt}
use Rattle.av_sched.proofs.Covering.{node_fits, put_valid, put_like, put_is}
use Rattle.av_sched.proofs.walk.Walk.put.Goals as goal

pub node-node-requires : goal.node-node-requires
node-node-requires c = subst (λ (w : Walk). c.args.level < length w.choices.component) (sym c.self.view_is) c.requires.level

pub index_mut-requires : goal.index_mut-requires
index_mut-requires c =
    let w = c.self.inside in
    let fits = subst (λ (v : Walk). c.args.level < length v.choices.component) (sym c.self.view_is) c.requires.level in
    let within = node_fits w.choices.now c.args.level c.node-node.result.0 w.linear.items c.self.invariant.fits c.self.invariant.valid fits c.node-node.ensures in
    let long : w.linear.len ≡ length w.linear.items = w.linear.ok.0 in
    omega (arith, within, long)

pub invariant_of-self : goal.invariant_of-self
invariant_of-self c =
    let w = c.self.inside in
    let d = w.choices.now in
    let level = c.args.level in
    let fits = subst (λ (v : Walk). level < length v.choices.component) (sym c.self.view_is) c.requires.level in
    let own = subst (λ (v : Walk). IsPartAt v.choices level c.args.part.now) (sym c.self.view_is) c.requires.part in
    record {
      fits = c.self.invariant.fits;
      valid = put_valid d level c.node-node.result.0 c.copy_point.result c.args.part.now fits c.self.invariant.fits c.node-node.ensures c.copy_point.ensures w.linear.items own c.self.invariant.valid;
      pool = c.self.invariant.pool;
      sound = c.self.invariant.sound;
      rated = c.self.invariant.rated;
      like = put_like d level c.node-node.result.0 c.copy_point.result c.args.part.now fits c.self.invariant.fits c.node-node.ensures c.copy_point.ensures w.linear.items (known w.best) c.self.invariant.like;
    }

pub returns : goal.returns
returns c =
    let w = c.self.inside in
    let level = c.args.level in
    let fits = subst (λ (v : Walk). level < length v.choices.component) (sym c.self.view_is) c.requires.level in
    put_is w.choices.now level c.node-node.result.0 c.copy_point.result c.args.part.now fits c.self.invariant.fits c.node-node.ensures c.copy_point.ensures w.linear.items (known w.best) c.args.self.now c.self.view_is
