use Rattle.std.proofs.Common.{◌<◌, ◌≤◌, ◌+◌, List, [], ◌∷◌, length, map, drop, rules, ap, sym, subst, ◌∙◌, All}
use Rattle.std.specs.List.{flat_map}
use Rattle.std.proofs.lemmas.List.{map-append}
use Rattle.std.proofs.lemmas.Result.{err_from_is_err_and}
use Rattle.av_flat.specs.declared.flat.Var.{Var}
use Rattle.av_flat.specs.Trees.{Variable, view_variable, view_system}
use Rattle.av_flat.specs.Signatures.{signatures}
use Rattle.av_flat.specs.WellFormed.{IsWellFormedVariable}
use Rattle.av_flat.specs.Quantities.{measured}
use Rattle.av_normal.specs.inner.Counted.{HasFew}
use Rattle.av_normal.specs.Searches.{AreNarrow, IsWide}
use Rattle.av_normal.specs.inner.Making.{Continues}
use Rattle.av_normal.specs.inner.AllPieces.{HaveAllPieces}
use Rattle.av_normal.proofs.Trying.{past, refused, next_stands, narrow_sets, wide_in}
use Rattle.av_normal.proofs.Making.{all_at, one_made, all_made}
use Rattle.av_normal.proofs.Parted.{few_at}
use Rattle.av_normal.proofs.all_pieces.all_pieces.Goals as goal
use Rattle.av_base.proofs.Lists.{next_item, nothing_left}

pub with_all_pieces-requires-clause-variable : goal.with_all_pieces-requires-clause-variable
with_all_pieces-requires-clause-variable c =
    let s = view_system c.args.flat.now in
    let vars = c.as_slice-var-items.result.now in
    let i = c.loop-var.var-index in
    let l : i < length vars = search rules in
    all_at (IsWellFormedVariable s) view_variable vars i c.var-item.result l c.var-item.is
    (subst (λ (xs : List Var). All (IsWellFormedVariable s) (map view_variable xs)) (sym c.as_slice-var-items.ensures) c.requires.well_formed.each)

pub with_all_pieces-requires-clause-few : goal.with_all_pieces-requires-clause-few
with_all_pieces-requires-clause-few c =
    let vars = c.as_slice-var-items.result.now in
    let i = c.loop-var.var-index in
    let l : i < length vars = search rules in
    few_at view_variable vars i c.var-item.result l c.var-item.is (subst (λ (xs : List Var). HasFew (map view_variable xs)) (sym c.as_slice-var-items.ensures) c.requires.few)

pub returns-in_err-with_all_pieces-clause-wide : goal.returns-in_err-with_all_pieces-clause-wide
returns-in_err-with_all_pieces-clause-wide c =
    let s = view_system c.args.flat.now in
    let vs = signatures s in
    let vars = c.as_slice-var-items.result.now in
    let i = c.loop-var.var-index in
    let l : i < length vars = search rules in
    let f = c.in_err-with_all_pieces.field-0.0 in
    let all = flat_map (measured vs) (map view_variable vars) in
    let next = next_stands (λ (xs : List Var). flat_map (measured vs) (map view_variable xs)) all vars i c.var-item.result l c.var-item.is c.loop-var.invariant.left in
    let w = refused (measured vs (view_variable c.var-item.result)) (flat_map (measured vs) (map view_variable (drop (i + 1) vars))) all f next c.in_err-with_all_pieces.ensures.wide in
    let p = err_from_is_err_and c.from_residual.result c.from_residual.ensures.1 in
    rw (p.1, p.2) (wide_in s f (subst (λ (xs : List Var). IsWide (flat_map (measured vs) (map view_variable xs)) f) c.as_slice-var-items.ensures w))

pub loop-var-preserved : goal.loop-var-preserved
loop-var-preserved c =
    let s = view_system c.args.flat.now in
    let vs = signatures s in
    let vars = c.as_slice-var-items.result.now in
    let i = c.loop-var.var-index in
    let l : i < length vars = search rules in
    let v = view_variable c.var-item.result in
    let rest = map view_variable (drop (i + 1) vars) in
    let whole = map view_variable vars in
    let all = flat_map (measured vs) whole in
    let next = next_stands (λ (xs : List Var). flat_map (measured vs) (map view_variable xs)) all vars i c.var-item.result l c.var-item.is c.loop-var.invariant.left in
    let var = c.in_ok-with_all_pieces.field-0 in
    let old = map view_variable c.loop-var.made in
    let longer = ap (λ (xs : List Var). map view_variable xs) c.in_ok-push.ensures.ok ∙ map-append view_variable c.loop-var.made (var ∷ []) in
    let made = subst (λ (xs : List Var). Continues (HaveAllPieces vs) whole old (map view_variable xs)) (next_item vars i c.var-item.result l c.var-item.is) c.loop-var.invariant.made in
    record {
      left = past (measured vs v) (flat_map (measured vs) rest) all next c.in_ok-with_all_pieces.ensures.narrow;
      made = subst (λ (ws : List Variable). Continues (HaveAllPieces vs) whole ws rest) (sym longer)
          (one_made (HaveAllPieces vs) whole old v rest (view_variable var) made (λ ws a. (c.in_ok-with_all_pieces.ensures.pieces, a)));
    }

pub returns-clause-pieces : goal.returns-clause-pieces
returns-clause-pieces c =
    let vs = signatures (view_system c.args.flat.now) in
    let vars = c.as_slice-var-items.result.now in
    let i = c.loop-var.var-index in
    let l : length vars ≤ i = search rules in
    let made = map view_variable c.loop-var.made in
    let whole = map view_variable vars in
    let end = subst (λ (xs : List Var). Continues (HaveAllPieces vs) whole made (map view_variable xs)) (nothing_left vars i l) c.loop-var.invariant.made in
    subst (λ (xs : List Var). HaveAllPieces vs (map view_variable xs) made) c.as_slice-var-items.ensures (all_made (HaveAllPieces vs) whole made tt end)

pub returns-clause-narrow : goal.returns-clause-narrow
returns-clause-narrow c =
    let s = view_system c.args.flat.now in
    let vs = signatures s in
    let vars = c.as_slice-var-items.result.now in
    let i = c.loop-var.var-index in
    let l : length vars ≤ i = search rules in
    let none = subst (λ (xs : List Var). AreNarrow (flat_map (measured vs) (map view_variable xs))) (sym (nothing_left vars i l)) tt in
    narrow_sets s (subst (λ (xs : List Var). AreNarrow (flat_map (measured vs) (map view_variable xs))) c.as_slice-var-items.ensures (c.loop-var.invariant.left.narrow none))
