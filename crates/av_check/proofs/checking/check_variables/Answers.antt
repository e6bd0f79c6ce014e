use Rattle.std.proofs.Common.{◌<◌, ◌≤◌, length, map, List, All, refl, subst, arith, rules}
use Rattle.std.proofs.lemmas.List.{length-map, take_all}
use Rattle.std.proofs.lemmas.Result.{err_from_is_err_and}
use Rattle.av_flat.specs.declared.flat.Var.{Var}
use Rattle.av_flat.specs.Trees.{view_variable}
use Rattle.av_flat.specs.Signatures.{signature}
use Rattle.av_check.specs.inner.Premises.{HasNoneMiscovered}
use Rattle.av_check.proofs.Settled.{ready_size, ready_mapped, fine_more, fault_found}
use Rattle.av_check.proofs.checking.check_variables.Goals as goal

pub bounds-kept-k : goal.bounds-kept-k
bounds-kept-k c =
    let l : c.loop-k.k < length c.args.vars.now = search rules in
    let m = length-map c.args.vars.now view_variable in
    let n = length-map c.args.kept.now view_variable in
    let size = ready_size (map signature (map view_variable c.args.vars.now)) (map view_variable c.args.vars.now) (map view_variable c.args.kept.now) c.requires in
    omega (arith, l, m, n, size)

pub check_variable-requires : goal.check_variable-requires
check_variable-requires c =
    let l : c.loop-k.k < length c.args.vars.now = search rules in
    ready_mapped view_variable (map signature (map view_variable c.args.vars.now)) c.args.vars.now c.args.kept.now c.loop-k.k c.index-vars-k.result c.index-kept-k.result l c.index-vars-k.is c.index-kept-k.is c.requires

pub loop-k-preserved : goal.loop-k-preserved
loop-k-preserved c =
    let l : c.loop-k.k < length c.args.vars.now = search rules in
    fine_more view_variable (map signature (map view_variable c.args.vars.now)) c.args.vars.now c.loop-k.k c.index-vars-k.result l c.index-vars-k.is c.loop-k.invariant c.in_ok-check_variable.ensures.fine

pub returns-in_err-check_variable-clause-wrong : goal.returns-in_err-check_variable-clause-wrong
returns-in_err-check_variable-clause-wrong c =
    let l : c.loop-k.k < length c.args.vars.now = search rules in
    let p = err_from_is_err_and c.from_residual.result c.from_residual.ensures.1 in
    rw (p.1, p.2) (λ width. fault_found view_variable (record { width = width; variables = map view_variable c.args.vars.now }) c.args.vars.now c.loop-k.k c.index-vars-k.result c.in_err-check_variable.field-0.0 refl l c.index-vars-k.is
    c.loop-k.invariant c.in_err-check_variable.ensures.wrong)

pub returns-clause-fine : goal.returns-clause-fine
returns-clause-fine c =
    let l : length c.args.vars.now ≤ c.loop-k.k = search rules in
    subst (λ (xs : List Var). All (HasNoneMiscovered (map signature (map view_variable c.args.vars.now))) (map view_variable xs)) (take_all c.loop-k.k c.args.vars.now l) c.loop-k.invariant
