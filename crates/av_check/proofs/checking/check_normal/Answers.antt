use Rattle.std.proofs.Common.{map, ℕ, List, All, refl, sym, subst}
use Rattle.std.specs.Prelude.{OnOk, IfErr}
use Rattle.std.proofs.lemmas.Result.{on_ok_weaker}
use Rattle.av_flat.specs.declared.flat.Var.{Var}
use Rattle.av_flat.specs.Trees.{FlatSystem, view_variable, view_system}
use Rattle.av_flat.specs.Signatures.{signature}
use Rattle.av_flat.specs.Proper.{IsProper}
use Rattle.av_check.specs.CheckFaults.{IsFault}
use Rattle.av_check.specs.inner.Premises.{HavePremises, HasNoneMiscovered}
use Rattle.av_check.proofs.Caused.{narrow_sets, ends}
use Rattle.av_check.proofs.Prepared.{are_ready}
use Rattle.av_check.proofs.Settled.{proper_where_fine, refuses, complete, found_at}
use Rattle.av_check.proofs.checking.check_normal.Goals as goal

pub check_variables-requires : goal.check_variables-requires
check_variables-requires c =
    let s = view_system c.args.flat.now in
    let t = view_system c.args.normal.now in
    let r = are_ready s t c.requires.well_formed c.requires.given.form c.requires.given.kept (narrow_sets s c.requires.given.no_cause) in
    let first = subst (λ (xs : List Var). HavePremises (map signature (map view_variable xs)) (map view_variable xs) t.variables) (sym c.as_slice.ensures) r in
    subst (λ (ys : List Var). HavePremises (map signature (map view_variable c.as_slice.result.now)) (map view_variable c.as_slice.result.now) (map view_variable ys)) (sym c.as_slice-2.ensures) first

pub returns : goal.returns
returns c =
    let s : FlatSystem = view_system c.args.flat.now in
    let r = c.check_variables.result in
    let fine = subst (λ (xs : List Var). OnOk r (All (HasNoneMiscovered (map signature (map view_variable xs))) (map view_variable xs))) c.as_slice.ensures c.check_variables.ensures.fine in
    let wrong = subst (λ (xs : List Var). IfErr r (λ f. (w : ℕ) → IsFault (record { width = w; variables = map view_variable xs }) f)) c.as_slice.ensures c.check_variables.ensures.wrong in
    let proper : OnOk r (IsProper s) = on_ok_weaker r (proper_where_fine s (ends s c.requires.given.no_cause)) fine in
    let fault : IfErr r (IsFault s) = found_at s s.width r refl wrong in
    record { proper = proper; complete = complete s r fault; fault = fault; refused = refuses s r proper fault }
