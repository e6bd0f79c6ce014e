use Rattle.std.proofs.Common.{◌≡◌, ◌∙◌, ◌<◌, ◌++◌, ◌∷◌, [], ℤ, List, length, get_or, take, sym, ap, arith, subst, FitsSigned, to_z, of_z, to_z-of_z, w64}
use Rattle.std.proofs.lemmas.Int.{ints}
use Rattle.std.proofs.lemmas.List.{length-map, length-take-le, take_all}
use Rattle.av_affine.specs.Numbers.{AtMost, dot}
use Rattle.av_space.specs.Coordinates.{Placing, along}
use Rattle.av_space.proofs.Rows.{small_rows, small_along, along_more}
use Rattle.av_space.proofs.placement.Placement.coordinates.Goals as goal

pub coordinate-requires-clause-row : goal.coordinate-requires-clause-row
coordinate-requires-clause-row c =
    let rows = c.args.self.now.rows in
    let k = c.loop-row.row-index in
    let row = c.row-item.result in
    let s = small_rows c.args.self.now c.requires.placing c.requires.few in
    let own : c.as_slice-row-items.result.now ≡ rows = c.as_slice-row-items.ensures ∙ ap (λ (p : Placing). p.rows) c.self.view_is in
    let l : k < length rows = (let t = c.loop-row-test.true in let e = ap (λ (xs : List (List ℤ)). length xs) own in omega (arith, t, e)) in
    let is : row ≡ get_or rows k row = c.row-item.is ∙ ap (λ (xs : List (List ℤ)). get_or xs k row) own in
    subst (AtMost 1) (sym is) (s.small k row l)

pub push-requires : goal.push-requires
push-requires c =
    let rows = c.as_slice-row-items.result.now in
    let k = c.loop-row.row-index in
    let s = small_rows c.args.self.now c.requires.placing c.requires.few in
    let few = s.few in
    let t = c.loop-row-test.true in
    let own : rows ≡ c.args.self.now.rows = c.as_slice-row-items.ensures ∙ ap (λ (p : Placing). p.rows) c.self.view_is in
    let e = ap (λ (xs : List (List ℤ)). length xs) own in
    let n = ap (λ (xs : List ℤ). length xs) c.loop-row.invariant in
    let m = length-map (take k rows) (λ row. dot row c.args.z.now) in
    let u = length-take-le k rows (omega (arith, t)) in
    (omega arith, omega (arith, n, m, u, t, e, few))

pub loop-row-preserved : goal.loop-row-preserved
loop-row-preserved c =
    let rows = c.as_slice-row-items.result.now in
    let k = c.loop-row.row-index in
    let z = c.args.z.now in
    let r = c.coordinate.result in
    let small = c.coordinate.ensures.small in
    let f : FitsSigned w64 r = omega (arith, ints, small) in
    let t : to_z w64 (of_z w64 r) ≡ r = simp to_z-of_z in
    c.push.ensures.items ∙ ap (λ (x : ℤ). c.loop-row.entries.items ++ x ∷ []) (t ∙ c.coordinate.ensures.value) ∙ ap (λ (xs : List ℤ). xs ++ dot c.row-item.result z ∷ []) c.loop-row.invariant
    ∙ sym (along_more rows z k c.row-item.result c.loop-row-test.true c.row-item.is)

pub returns-clause-value : goal.returns-clause-value
returns-clause-value c =
    let rows = c.as_slice-row-items.result.now in
    let z = c.args.z.now in
    c.from_slice.ensures ∙ c.as_slice.ensures.value ∙ c.loop-row.invariant ∙ ap (λ (xs : List (List ℤ)). along xs z) (take_all c.loop-row.row-index rows c.loop-row-test.false ∙ c.as_slice-row-items.ensures ∙ ap (λ (p : Placing). p.rows) c.self.view_is)

pub returns-clause-small : goal.returns-clause-small
returns-clause-small c =
    let rows = c.as_slice-row-items.result.now in
    let z = c.args.z.now in
    let s = small_rows c.args.self.now c.requires.placing c.requires.few in
    let value = c.from_slice.ensures ∙ c.as_slice.ensures.value ∙ c.loop-row.invariant ∙ ap (λ (xs : List (List ℤ)). along xs z) (take_all c.loop-row.row-index rows c.loop-row-test.false ∙ c.as_slice-row-items.ensures ∙ ap (λ (p : Placing). p.rows) c.self.view_is) in
    subst (AtMost 16380) (sym value) (small_along c.args.self.now.rows z s c.requires.fits c.requires.small)
