use Rattle.std.proofs.Common.{◌∙◌, sym, ap, subst}
use Rattle.av_sched.specs.inner.Walk.{known, IsLike}
use Rattle.av_sched.specs.inner.Walks.{Walk}
use Rattle.av_sched.proofs.walk.Walk.into_best.Goals as goal

pub returns-in-None-clause-none : goal.returns-in-None-clause-none
returns-in-None-clause-none c = sym (ap (λ (w : Walk). w.best) c.self.view_is) ∙ ap known c.in-None.is

pub returns-in-None-clause-like : goal.returns-in-None-clause-like
returns-in-None-clause-like c = subst (λ (w : Walk). IsLike w.choices.component w.linear w.best) c.self.view_is c.self.invariant.like

pub returns-clause-some : goal.returns-clause-some
returns-clause-some c = sym (ap (λ (w : Walk). w.best) c.self.view_is) ∙ ap known c.in-Some.is

pub returns-clause-like : goal.returns-clause-like
returns-clause-like c = subst (λ (w : Walk). IsLike w.choices.component w.linear w.best) c.self.view_is c.self.invariant.like
