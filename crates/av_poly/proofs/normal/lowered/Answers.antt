use Rattle.std.proofs.Common.{◌≡◌, ◌≢◌, ◌<◌, ◌∙◌, length, get_or, true, false, true≢false, arith, ap, sym, subst, refl, FitsSigned, to_z-of_z, w64, rules, List, [], pos}
use Rattle.std.proofs.lemmas.Slice.Eq.{slice_eq-Decides}
use Rattle.std.proofs.lemmas.Bool.Decides.{Decides-int_eq}
use Rattle.std.proofs.lemmas.List.{get_or_default}
use Rattle.std.proofs.lemmas.List.Elements.{All-more}
use Rattle.std.proofs.lemmas.Grind.{common_steps}
use Rattle.av_affine.specs.declared.form.Form.{Form}
use Rattle.av_poly.specs.inner.Placing.{Lowers}
use Rattle.av_poly.proofs.Lowering.{lowers_at}
use Rattle.av_poly.proofs.normal.lowered.Goals as goal

pub returns-then-eq-clause-yes : goal.returns-then-eq-clause-yes
returns-then-eq-clause-yes c =
    let row = c.args.row.now in
    let rows = c.loop-k.rows in
    let k = c.loop-k.k in
    let none : Form = record { coef = []; constant = pos 0 } in
    let x = get_or c.as_slice.result.now k none in
    let l : k < length rows = search rules in
    let f : FitsSigned w64 row.constant = search rules in
    let r = ap (λ (fs : List Form). get_or fs k none) c.as_slice.ensures ∙ get_or_default rows k none row l in
    let e : x.coef ≡ row.coef = (slice_eq-Decides Decides-int_eq x.coef row.coef true c.if-eq.ensures).0 refl in
    let m = simp to_z-of_z at c.lesser.ensures in
    λ _. subst (Lowers c.args.kept row c.args.rows.now) (sym c.set.ensures) (lowers_at c.args.kept row c.args.rows.now rows k x _ (omega arith) c.loop-k.invariant.same r e m)

pub loop-k-preserved : goal.loop-k-preserved
loop-k-preserved c =
    let row = c.args.row.now in
    let rows = c.loop-k.rows in
    let k = c.loop-k.k in
    let none : Form = record { coef = []; constant = pos 0 } in
    let x = get_or c.as_slice.result.now k none in
    let l : k < length rows = search rules in
    let r = ap (λ (fs : List Form). get_or fs k none) c.as_slice.ensures ∙ get_or_default rows k none row l in
    let ne : x.coef ≢ row.coef = λ q. true≢false (sym ((slice_eq-Decides Decides-int_eq x.coef row.coef false c.if-eq.ensures).1 q)) in
    let P : Form → Type 0 = λ (other : Form). other.coef ≢ row.coef in
    let at : P (get_or c.args.rows.now k row) = subst P (r ∙ ap (λ (fs : List Form). get_or fs k row) c.loop-k.invariant.same) ne in
    record {
      same = c.loop-k.invariant.same;
      none = All-more P c.args.rows.now k row (subst (λ (fs : List Form). k < length fs) c.loop-k.invariant.same l) c.loop-k.invariant.none at;
    }

pub set-requires : goal.set-requires
set-requires c = grind (arith, common_steps)
