use Rattle.std.proofs.Common.{All, sym, subst}
use Rattle.av_flat.specs.Trees.{view_system}
use Rattle.av_sched.specs.Witnesses.{IsWitness}
use Rattle.av_sched.specs.inner.Walks.{Choices, IsChoice}
use Rattle.av_sched.proofs.Usable.{usable}
use Rattle.av_sched.proofs.Inside.{vectors_of}
use Rattle.av_sched.proofs.choices.Choices.learn.Goals as goal

pub learn-requires-clause-usable : goal.learn-requires-clause-usable
learn-requires-clause-usable c =
    let d = c.self.inside in
    let s = view_system d.flat.now in
    let parts = subst (λ (x : Choices). IsChoice x c.args.linear.now) (sym c.self.view_is) c.requires.linear in
    usable s d.edges.now c.args.linear.now c.self.invariant.chained c.self.invariant.proper c.self.invariant.edges (vectors_of s d.reach.size c.args.linear.now d.reach.most parts)

pub learn-requires-clause-pool : goal.learn-requires-clause-pool
learn-requires-clause-pool c = subst (λ (x : Choices). All (IsWitness x.edges x.component) c.args.pool.now.items) (sym c.self.view_is) c.requires.pool

pub returns : goal.returns
returns c = subst (λ (x : Choices). All (IsWitness x.edges x.component) c.learn.new.pool.items) c.self.view_is c.learn.ensures
