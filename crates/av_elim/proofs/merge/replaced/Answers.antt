use Rattle.std.proofs.Common.{rules, ◌≡◌, ◌<◌, ◌≤ℤ◌, ◌++◌, length, get_or, true, arith, ap, sym, subst, refl, List, [], ◌∷◌, pos}
use Rattle.std.proofs.lemmas.Int.{ints}
use Rattle.std.proofs.lemmas.Slice.Eq.{slice_eq-Decides}
use Rattle.std.proofs.lemmas.Bool.Decides.{Decides-int_eq}
use Rattle.std.proofs.lemmas.Grind.{common_steps}
use Rattle.av_affine.specs.declared.form.Form.{Form}
use Rattle.av_poly.specs.Rational.{homogeneous}
use Rattle.av_elim.specs.inner.Rows.{line, StandsFor}
use Rattle.av_elim.proofs.Merging.{stands_replaced, stands_stronger}
use Rattle.av_elim.proofs.merge.replaced.Goals as goal

pub returns-then-row-other-clause-yes : goal.returns-then-row-other-clause-yes
returns-then-row-other-clause-yes c =
    let row = c.args.row.now in
    let rows = c.loop-place.rows in
    let k = c.loop-place.place in
    let none : Form = record { coef = []; constant = pos 0 } in
    let x = get_or c.as_slice.result.now k none in
    let l : k < length rows = search rules in
    let r : x ≡ get_or rows k none = ap (λ (fs : List Form). get_or fs k none) c.as_slice.ensures in
    let e : x.coef ≡ row.coef = (slice_eq-Decides Decides-int_eq x.coef row.coef true c.if-eq.ensures).0 refl in
    let o : row.constant ≤ℤ x.constant = grind (arith, ints, c.if-row-other.true) in
    let s = stands_replaced rows k none row l (subst (λ (y : Form). y.coef ≡ row.coef) r e) (subst (λ (y : Form). row.constant ≤ℤ y.constant) r o) in
    λ _. subst (λ (old : List Form). StandsFor (homogeneous old ++ line row ∷ []) (homogeneous c.set.new.self)) c.loop-place.invariant
    (subst (λ (new : List Form). StandsFor (homogeneous rows ++ line row ∷ []) (homogeneous new)) (sym c.set.ensures) s)

pub returns-else-row-other-clause-yes : goal.returns-else-row-other-clause-yes
returns-else-row-other-clause-yes c =
    let row = c.args.row.now in
    let rows = c.loop-place.rows in
    let k = c.loop-place.place in
    let none : Form = record { coef = []; constant = pos 0 } in
    let x = get_or c.as_slice.result.now k none in
    let l : k < length rows = search rules in
    let r : x ≡ get_or rows k none = ap (λ (fs : List Form). get_or fs k none) c.as_slice.ensures in
    let e : x.coef ≡ row.coef = (slice_eq-Decides Decides-int_eq x.coef row.coef true c.if-eq.ensures).0 refl in
    let o : x.constant ≤ℤ row.constant = grind (arith, ints, c.if-row-other.false) in
    let s = stands_stronger rows k none row l (subst (λ (y : Form). y.coef ≡ row.coef) r e) (subst (λ (y : Form). y.constant ≤ℤ row.constant) r o) in
    λ _. subst (λ (old : List Form). StandsFor (homogeneous old ++ line row ∷ []) (homogeneous rows)) c.loop-place.invariant s

pub set-requires : goal.set-requires
set-requires c = grind (arith, common_steps)
