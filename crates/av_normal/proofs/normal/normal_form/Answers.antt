use Rattle.std.proofs.Common.{map, refl, sym, subst, ◌∙◌, List, Option}
use Rattle.std.specs.List.{AllByRecursion}
use Rattle.std.proofs.lemmas.Result.{err_from_is_err_and}
use Rattle.av_poly.specs.declared.poly.Bounds.{Bounds}
use Rattle.av_flat.specs.declared.flat.Var.{Var}
use Rattle.av_flat.specs.Trees.{view_variable, view_system}
use Rattle.av_flat.specs.Signatures.{signatures}
use Rattle.av_normal.specs.inner.Counted.{HasFew, IsOfMany}
use Rattle.av_normal.specs.NormalForm.{IsNormalForm}
use Rattle.av_normal.specs.Pairwise.{Pairwise}
use Rattle.av_normal.specs.Domains.{HasNarrowDomain, IsDeclaredExtent, IsEndless, IsSmallExtent}
use Rattle.av_normal.proofs.Causes.{few_indices, narrow_domains, many_fault, wide_fault, endless_fault, box_fault, no_cause, bounded_domains}
use Rattle.av_normal.proofs.KeptSystems.{kept}
use Rattle.av_normal.proofs.NonemptyPieces.{all_held, normal_variables}
use Rattle.av_normal.proofs.Systems.{same_meaning, proper}
use Rattle.av_normal.proofs.normal.normal_form.Goals as goal

pub returns-in_err-few_pieces-clause-fault : goal.returns-in_err-few_pieces-clause-fault
returns-in_err-few_pieces-clause-fault c =
    let s = view_system c.args.flat.now in
    let f = c.in_err-few_pieces.field-0.0 in
    let p = err_from_is_err_and c.from_residual.result c.from_residual.ensures.1 in
    rw (p.1, p.2) (many_fault s f (subst (λ (vars : List Var). IsOfMany (map view_variable vars) f) c.as_slice.ensures c.in_err-few_pieces.ensures.many))

pub returns-in_err-all_pieces-clause-fault : goal.returns-in_err-all_pieces-clause-fault
returns-in_err-all_pieces-clause-fault c =
    let s = view_system c.args.flat.now in
    let few = subst (λ (vars : List Var). HasFew (map view_variable vars)) c.as_slice.ensures c.in_ok-few_pieces.ensures.few in
    let p = err_from_is_err_and c.from_residual-in_err-all_pieces.result c.from_residual-in_err-all_pieces.ensures.1 in
    rw (p.1, p.2) (wide_fault s few c.in_err-all_pieces.field-0.0 c.in_err-all_pieces.ensures.wide)

pub extents-requires : goal.extents-requires
extents-requires c =
    let s = view_system c.args.flat.now in
    subst (λ (vars : List Var). AllByRecursion HasNarrowDomain (map view_variable vars)) (sym c.as_slice-2.ensures) (narrow_domains s c.requires c.in_ok-all_pieces.ensures.narrow)

pub returns-in_err-extents-clause-fault : goal.returns-in_err-extents-clause-fault
returns-in_err-extents-clause-fault c =
    let s = view_system c.args.flat.now in
    let f = c.in_err-extents.field-0.0 in
    let few = subst (λ (vars : List Var). HasFew (map view_variable vars)) c.as_slice.ensures c.in_ok-few_pieces.ensures.few in
    let p = err_from_is_err_and c.from_residual-in_err-extents.result c.from_residual-in_err-extents.ensures.1 in
    rw (p.1, p.2)
    (endless_fault s few c.in_ok-all_pieces.ensures.narrow f (subst (λ (vars : List Var). IsEndless (map view_variable vars) f) c.as_slice-2.ensures c.in_err-extents.ensures.endless))

pub returns-in_err-boxes_fit-clause-fault : goal.returns-in_err-boxes_fit-clause-fault
returns-in_err-boxes_fit-clause-fault c =
    let s = view_system c.args.flat.now in
    let f = c.in_err-boxes_fit.field-0.0 in
    let few = subst (λ (vars : List Var). HasFew (map view_variable vars)) c.as_slice.ensures c.in_ok-few_pieces.ensures.few in
    let found = subst (λ (vars : List Var). Pairwise IsDeclaredExtent (map view_variable vars) c.in_ok-extents.extents) c.as_slice-2.ensures c.in_ok-extents.ensures.found in
    let along = subst (λ (es : List (Option Bounds)). Pairwise IsDeclaredExtent s.variables es) (sym c.as_slice-3.ensures) found in
    let p = err_from_is_err_and c.from_residual-in_err-boxes_fit.result c.from_residual-in_err-boxes_fit.ensures.1 in
    rw (p.1, p.2) (box_fault s c.requires c.as_slice-3.result.now along few c.in_ok-all_pieces.ensures.narrow f c.in_err-boxes_fit.ensures.over)

pub kept_variables-requires : goal.kept_variables-requires
kept_variables-requires c =
    let s = view_system c.args.flat.now in
    let found = subst (λ (vars : List Var). Pairwise IsDeclaredExtent (map view_variable vars) c.in_ok-extents.extents) c.as_slice-2.ensures c.in_ok-extents.ensures.found in
    let along = subst (λ (es : List (Option Bounds)). Pairwise IsDeclaredExtent s.variables es) (sym c.as_slice-4.ensures) found in
    let all_pieces = c.in_ok-all_pieces.ensures.pieces in
    let small = subst (λ (es : List (Option Bounds)). AllByRecursion IsSmallExtent es) (c.as_slice-3.ensures ∙ sym c.as_slice-4.ensures) c.in_ok-boxes_fit.ensures.fit in
    all_held (signatures s) s.variables (map view_variable c.in_ok-all_pieces.all_pieces) c.as_slice-4.result.now (few_indices s c.requires) all_pieces along small

pub returns-clause-given : goal.returns-clause-given
returns-clause-given c =
    let s = view_system c.args.flat.now in
    let t = view_system (record { width = c.args.flat.now.width; vars = c.in_ok-vars.vars }) in
    let few = subst (λ (vars : List Var). HasFew (map view_variable vars)) c.as_slice.ensures c.in_ok-few_pieces.ensures.few in
    let narrow = c.in_ok-all_pieces.ensures.narrow in
    let found = subst (λ (vars : List Var). Pairwise IsDeclaredExtent (map view_variable vars) c.in_ok-extents.extents) c.as_slice-2.ensures c.in_ok-extents.ensures.found in
    let along = subst (λ (es : List (Option Bounds)). Pairwise IsDeclaredExtent s.variables es) (sym c.as_slice-3.ensures) found in
    let small = c.in_ok-boxes_fit.ensures.fit in
    let extents = c.as_slice-3.result.now in
    let all_pieces = c.in_ok-all_pieces.ensures.pieces in
    let form : IsNormalForm s t = record {
      width = refl;
      variables = normal_variables (signatures s) s.variables (map view_variable c.in_ok-all_pieces.all_pieces) t.variables all_pieces c.in_ok-vars.ensures;
    } in
    record {
      form = form;
      same = same_meaning s t c.requires form;
      kept = kept s t c.requires form (bounded_domains s c.requires extents along small narrow) narrow;
      proper = proper s t c.requires form;
      no_cause = no_cause s c.requires extents along small few narrow;
    }
