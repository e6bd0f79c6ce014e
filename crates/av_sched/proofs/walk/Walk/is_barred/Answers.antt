use Rattle.std.proofs.Common.{◌≤◌, sym, subst, length, Bool, IsTrue, All, List}
use Rattle.std.proofs.lemmas.Result.{IfOk-weaker}
use Rattle.av_tree.specs.Points.{Point}
use Rattle.av_sched.specs.declared.witness.Witness.{Witness}
use Rattle.av_sched.specs.Witnesses.{IsWitness}
use Rattle.av_sched.specs.inner.Walks.{Walk, system_of, IsChoice, IsForbiddenChoice, HasSpent, HasCovered}
use Rattle.av_sched.specs.inner.WalkInside.{walk_of}
use Rattle.av_sched.proofs.Pricing.{above_barred}
use Rattle.av_sched.proofs.Covering.{nothing_more, forbidden_there, on_ok_always}
use Rattle.av_sched.proofs.walk.Walk.is_barred.Goals as goal

pub floor-requires : goal.floor-requires
floor-requires c = subst (λ (v : Walk). c.args.level ≤ length v.choices.component) (sym c.self.view_is) c.requires.level

pub returns-then-is_dear-clause-barred : goal.returns-then-is_dear-clause-barred
returns-then-is_dear-clause-barred c = λ t.
    let w = c.self.inside in
    let d = w.choices.now in
    let level = c.args.level in
    let spent = subst (λ (v : Walk). HasSpent v level c.args.spent) (sym c.self.view_is) c.requires.spent in
    subst (λ (v : Walk). HasCovered v level v) c.self.view_is
    (nothing_more (walk_of w) level c.self.invariant.sound
    (above_barred (system_of d) d.size d.component level w.linear.items c.args.spent c.floor.result w.best spent c.floor.ensures c.self.invariant.rated (c.is_dear.ensures c.if-is_dear.true)))

pub is_forbidden-requires-clause-linear : goal.is_forbidden-requires-clause-linear
is_forbidden-requires-clause-linear c = subst (λ (xs : List Point). IsChoice c.self.inside.choices.now xs) (sym c.deref.ensures.value) c.self.invariant.valid

pub is_forbidden-requires-clause-pool : goal.is_forbidden-requires-clause-pool
is_forbidden-requires-clause-pool c = subst (λ (ps : List Witness). All (IsWitness c.self.inside.choices.now.edges c.self.inside.choices.now.component) ps) (sym c.deref-2.ensures.value) c.self.invariant.pool

pub invariant_of-self : goal.invariant_of-self
invariant_of-self c = record {
  fits = c.self.invariant.fits;
  valid = c.self.invariant.valid;
  pool = c.self.invariant.pool;
  sound = c.self.invariant.sound;
  rated = c.self.invariant.rated;
  like = c.self.invariant.like;
}

pub returns-clause-same : goal.returns-clause-same
returns-clause-same c = on_ok_always c.is_forbidden.result _ c.self.view_is

pub returns-clause-barred : goal.returns-clause-barred
returns-clause-barred c =
    let w = c.self.inside in
    let level = c.args.level in
    IfOk-weaker c.is_forbidden.result (λ (b : Bool). IsTrue b → IsForbiddenChoice w.choices.now level c.deref.result.now) (λ (b : Bool). IsTrue b → HasCovered c.args.self.now level c.args.self.now)
    (λ b h t. subst (λ (v : Walk). HasCovered v level v) c.self.view_is
    (forbidden_there (walk_of w) level c.self.invariant.sound (subst (λ (xs : List Point). IsForbiddenChoice w.choices.now level xs) c.deref.ensures.value (h t)))) c.is_forbidden.ensures
