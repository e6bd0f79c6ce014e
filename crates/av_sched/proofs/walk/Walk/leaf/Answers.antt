use Rattle.std.proofs.Common.{rules, ◌∙◌, sym, subst, Some, length, List}
use Rattle.av_tree.specs.Points.{Point}
use Rattle.av_sched.specs.inner.Walks.{Walk, walk_at, IsChoice, IsFeasibleChoice, IsBetter, HasSpent, HasCovered}
use Rattle.av_sched.specs.inner.WalkInside.{walk_of}
use Rattle.av_sched.proofs.Covering.{leaf_behind, leaf_infeasible, leaf_best, best_sound, best_spent, best_like, whole_spent, on_ok_always}
use Rattle.av_sched.proofs.walk.Walk.leaf.Goals as goal

pub returns-then-not-branch : goal.returns-then-not-branch
returns-then-not-branch c =
    subst (λ (v : Walk). HasCovered v (length v.choices.component) v) c.self.view_is
    (leaf_behind (walk_of c.self.inside) c.self.invariant.fits c.self.invariant.sound
    (λ ahead. let t = c.in_ok-is_better.ensures.1 (subst IsBetter c.self.view_is ahead) in let f = c.if-not-branch.true in cc))

pub is_feasible-requires : goal.is_feasible-requires
is_feasible-requires c = subst (λ (xs : List Point). IsChoice c.self.inside.choices.now xs) (sym c.as_slice-linear.ensures.value) c.self.invariant.valid

-- ---- a feasible choice is taken

pub returns-then-branch : goal.returns-then-branch
returns-then-branch c =
    let w = c.self.inside in
    let d = w.choices.now in
    let ahead = subst IsBetter (sym c.self.view_is) (c.in_ok-is_better.ensures.0 (search rules)) in
    let feasible = subst (λ (xs : List Point). IsFeasibleChoice d xs) c.as_slice-linear.ensures.value (c.in_ok-is_feasible.ensures.0 (search rules)) in
    let best = c.in_ok-parts.parts.items in
    subst (λ (v : Walk). HasCovered v (length v.choices.component) (walk_at d w.linear.items (Some best))) c.self.view_is
    (leaf_best (walk_of w) c.self.invariant.fits c.self.invariant.sound best c.self.invariant.valid ahead feasible (c.in_ok-parts.ensures ∙ c.as_slice-linear.ensures.value))

pub invariant_of-self : goal.invariant_of-self
invariant_of-self c =
    let w = c.self.inside in
    let d = w.choices.now in
    let best = c.in_ok-parts.parts.items in
    let same = c.in_ok-parts.ensures ∙ c.as_slice-linear.ensures.value in
    let feasible = subst (λ (xs : List Point). IsFeasibleChoice d xs) c.as_slice-linear.ensures.value (c.in_ok-is_feasible.ensures.0 (search rules)) in
    let spent = whole_spent (walk_of w) c.args.spent (subst (λ (v : Walk). HasSpent v (length v.choices.component) c.args.spent) (sym c.self.view_is) c.requires) in
    record {
      fits = c.self.invariant.fits;
      valid = c.self.invariant.valid;
      pool = c.self.invariant.pool;
      sound = best_sound d w.linear.items best c.self.invariant.valid feasible same;
      rated = best_spent d w.linear.items best c.args.spent spent same;
      like = best_like d.component w.linear.items best same;
    }

-- ---- one that is not feasible is a witness's

pub learn-requires-clause-linear : goal.learn-requires-clause-linear
learn-requires-clause-linear c = subst (λ (xs : List Point). IsChoice c.self.inside.choices.now xs) (sym c.as_slice-linear.ensures.value) c.self.invariant.valid

pub invariant_of-self-2 : goal.invariant_of-self-2
invariant_of-self-2 c = record {
  fits = c.self.invariant.fits;
  valid = c.self.invariant.valid;
  pool = c.learn.ensures;
  sound = c.self.invariant.sound;
  rated = c.self.invariant.rated;
  like = c.self.invariant.like;
}

pub returns : goal.returns
returns c =
    let w = c.self.inside in
    on_ok_always c.learn.result _ (subst (λ (v : Walk). HasCovered v (length v.choices.component) (walk_of w)) c.self.view_is
    (leaf_infeasible (walk_of w) c.self.invariant.fits c.self.invariant.sound
    (λ feasible. let t = c.in_ok-is_feasible.ensures.1 (subst (λ (xs : List Point). IsFeasibleChoice w.choices.now xs) (sym c.as_slice-linear.ensures.value) feasible) in let f = c.if-branch.false in cc)))
