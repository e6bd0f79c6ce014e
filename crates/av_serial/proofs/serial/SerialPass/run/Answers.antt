use Rattle.std.proofs.Common.{sym, subst, IfOk, IfErr}
use Rattle.std.proofs.lemmas.Result.{IfOk-weaker}
use Rattle.av_flat.specs.declared.flat.Flat.{Flat}
use Rattle.av_flat.specs.Shown.{SameMeaning}
use Rattle.av_flat.specs.Solutions.{shows_of, declares_of}
use Rattle.av_flat.specs.Trees.{FlatSystem, view_system}
use Rattle.av_flat.specs.Kept.{IsKept}
use Rattle.av_serial.specs.SerialFaults.{IsGiven, IsFault}
use Rattle.av_serial.proofs.serial.SerialPass.run.Goals as goal

pub serial_form-requires : goal.serial_form-requires
serial_form-requires c = subst IsKept (sym c.in_ok-own.ensures) c.requires.takes

pub returns-clause-gives : goal.returns-clause-gives
returns-clause-gives c =
    subst (λ (s : FlatSystem). IfOk c.serial_form.result (λ to. IsGiven s (view_system to))) c.in_ok-own.ensures c.serial_form.ensures.given

pub returns-clause-refuses : goal.returns-clause-refuses
returns-clause-refuses c =
    subst (λ (s : FlatSystem). IfErr c.serial_form.result (λ fault. IsFault s fault)) c.in_ok-own.ensures c.serial_form.ensures.fault

pub returns-clause-same : goal.returns-clause-same
returns-clause-same c =
    let s = view_system c.args.from.now in
    IfOk-weaker c.serial_form.result (λ (to : Flat). IsGiven s (view_system to)) (λ (to : Flat). SameMeaning (shows_of s) (declares_of s) (shows_of (view_system to)) (declares_of (view_system to)))
    (λ to given. given.same) (returns-clause-gives c)
