use Rattle.std.proofs.Common.{rules, ◌≡◌, ◌∙◌, sym, ap, subst, length, arith, inl, inr, ⊎_elim, Err}
use Rattle.av_flat.specs.Trees.{FlatSystem, view_system}
use Rattle.av_flat.specs.Chained.{IsChained}
use Rattle.av_flat.specs.Proper.{IsProper}
use Rattle.av_flat.specs.Schedules.{IsSchedule}
use Rattle.av_sched.proofs.Counting.{within_limit}
use Rattle.av_best.specs.BestFaults.{joint_candidates}
use Rattle.av_best.specs.inner.Joint.{IsBest}
use Rattle.av_best.proofs.Scheduling.{least_schedule, in_box}
use Rattle.av_best.proofs.Refusing.{one_fault, no_fault}
use Rattle.av_best.proofs.finding.least.Goals as goal

pub returns-in-Some-clause-least : goal.returns-in-Some-clause-least
returns-in-Some-clause-least c =
    let s = view_system c.args.flat.now in
    let h = subst (IsBest s c.args.reach.size) c.in-Some.is c.in_ok-best.ensures in
    let parts = c.in_ok-timed_of-in-Some.ensures.linear ∙ c.deref-in-Some.ensures.value in
    let offs = c.in_ok-timed_of-in-Some.ensures.offsets ∙ c.deref-in-Some-2.ensures.value in
    least_schedule s c.args.reach.size c.args.edges.now c.requires.chained c.requires.proper c.requires.edges c.args.reach.most c.in-Some.best h c.in_ok-timed_of-in-Some.field-0.times parts offs

pub returns-in-Some-clause-legal : goal.returns-in-Some-clause-legal
returns-in-Some-clause-legal c =
    let s = view_system c.args.flat.now in
    let t = c.in_ok-timed_of-in-Some.field-0 in
    let h = subst (IsBest s c.args.reach.size) c.in-Some.is c.in_ok-best.ensures in
    let parts = c.in_ok-timed_of-in-Some.ensures.linear ∙ c.deref-in-Some.ensures.value in
    let offs = c.in_ok-timed_of-in-Some.ensures.offsets ∙ c.deref-in-Some-2.ensures.value in
    let same : view_system t.flat ≡ s = c.in_ok-timed_of-in-Some.ensures.same in
    let none : length t.helpers ≡ 0 = ap length c.in_ok-timed_of-in-Some.ensures.helpers in
    let schedule = in_box s c.args.reach.size c.args.edges.now c.requires.chained c.requires.proper c.requires.edges c.args.reach.most c.in-Some.best h t.times parts offs 4 c.args.reach.most in
    record {
      chained = subst IsChained (sym same) c.requires.chained;
      proper = subst IsProper (sym same) c.requires.proper;
      schedule = subst (λ (z : FlatSystem). IsSchedule z 4 t.times) (sym same) schedule;
      helpers = λ k d l. absurd (omega (arith, l, none));
    }

pub returns-in-Some-clause-refused : goal.returns-in-Some-clause-refused
returns-in-Some-clause-refused c = λ f is other.
    let s = view_system c.args.flat.now in
    let size = c.args.reach.size in
    let best = c.in-Some.best in
    let h = subst (IsBest s size) c.in-Some.is c.in_ok-best.ensures in
    let few = within_limit (joint_candidates s size) c.in_ok-number.number c.in_ok-number.ensures (search rules) in
    absurd (no_fault s size best.parts.items best.offsets.items few h.0.are h.0.offsets.are f is other)

pub returns-clause-refused : goal.returns-clause-refused
returns-clause-refused c = λ f is other.
    ⊎_elim (λ e. inl (ap Err e)) (λ e. inr (ap Err e)) (one_fault (view_system c.args.flat.now) c.args.reach.size c.fault_of.result c.fault_of.ensures f is other)
