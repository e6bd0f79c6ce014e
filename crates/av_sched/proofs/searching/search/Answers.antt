use Rattle.std.proofs.Common.{◌≡◌, sym, ap, subst, length, arith}
use Rattle.std.proofs.lemmas.Result.{err_from_is_err_and}
use Rattle.av_flat.specs.Trees.{FlatSystem}
use Rattle.av_flat.specs.Chained.{IsChained}
use Rattle.av_flat.specs.Proper.{IsProper}
use Rattle.av_flat.specs.Schedules.{IsSchedule}
use Rattle.av_sched.proofs.Answered.{handed_on, none_refused}
use Rattle.av_sched.proofs.searching.search.Goals as goal

pub returns-in_err-times-clause-fault : goal.returns-in_err-times-clause-fault
returns-in_err-times-clause-fault c =
    let p = err_from_is_err_and c.from_residual.result c.from_residual.ensures.1 in
    rw (p.1, p.2) c.in_err-times.ensures.fault

pub returns-in_err-times-clause-refused : goal.returns-in_err-times-clause-refused
returns-in_err-times-clause-refused c = λ f is other.
    handed_on c.first_times.result c.from_residual.result c.in_err-times.field-0.0 f c.in_err-times.was c.from_residual.ensures.1 (c.first_times.ensures.refused f is other)

pub returns-clause-legal : goal.returns-clause-legal
returns-clause-legal c =
    let times = c.in_ok-times.times in
    let same = c.in_ok-own.ensures in
    let legal = c.in_ok-times.ensures.legal in
    let none : length c.new.result ≡ 0 = ap length c.new.ensures in
    record {
      chained = subst IsChained (sym same) legal.chained;
      proper = subst IsProper (sym same) legal.proper;
      schedule = subst (λ (z : FlatSystem). IsSchedule z 4 times) (sym same) legal.schedule;
      helpers = λ k d l. absurd (omega (arith, l, none));
    }

pub returns-clause-refused : goal.returns-clause-refused
returns-clause-refused c = λ f is other.
    absurd (none_refused c.first_times.result c.in_ok-times.times f c.in_ok-times.was (c.first_times.ensures.refused f is other))
