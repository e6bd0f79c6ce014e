use Rattle.std.proofs.Common.{◌≡◌, ◌<◌, length, arith, rules, sym, ◌∙◌, ap, get_or, take, List, [], ℤ, pos, ◌≤ℤ◌, ◌<ℤ◌, FitsSigned, to_z, of_z, w64, true, false}
use Rattle.std.specs.Int.Signed.{lt_z}
use Rattle.std.proofs.lemmas.Int.{ints}
use Rattle.std.proofs.lemmas.Grind.{common_steps}
use Rattle.av_affine.specs.declared.form.Form.{Form}
use Rattle.av_poly.proofs.Sofar.{sofar_never, sofar_placed, sofar_constant}
use Rattle.av_poly.proofs.normal.normalise_rows.Goals as goal
use Rattle.av_poly.proofs.normal.normalise_rows.Goals.{in-Some, in-None+else-row-lt0}

negative : (x : ℤ) → FitsSigned w64 x → lt_z (to_z w64 (of_z w64 x)) (pos 0) ≡ true → x <ℤ pos 0
negative x f h = grind (arith, ints)

not_negative : (x : ℤ) → FitsSigned w64 x → lt_z (to_z w64 (of_z w64 x)) (pos 0) ≡ false → pos 0 ≤ℤ x
not_negative x f h = grind (arith, ints)

pub returns-then-row-lt0 : goal.returns-then-row-lt0
returns-then-row-lt0 c =
    let s = c.loop-k.invariant in
    let size = s.size in
    let none : Form = record { coef = []; constant = pos 0 } in
    let x = get_or c.as_slice.result.now c.loop-k.k none in
    let l : c.loop-k.k < length c.loop-k.rows = search rules in
    let m : c.loop-k.k < length c.args.rows.now = omega (arith, size) in
    let e = sym (ap (λ (fs : List Form). get_or fs c.loop-k.k none) c.as_slice.ensures ∙ s.rest c.loop-k.k none (omega arith)) in
    let f : FitsSigned w64 x.constant = search rules in
    let r = sofar_never c.args.dim c.args.rows.now c.loop-k.rows _ _ c.loop-k.k x none c.impossible_row.result s m e c.in-None.ensures.none (negative x.constant f c.if-row-lt0.true) c.impossible_row.ensures (c.truncate.ensures ∙ ap (take 1) c.set.ensures) in
    record { normalised = r.0; small = r.1 }

pub loop-k-preserved : goal.loop-k-preserved
loop-k-preserved c =
    let s = c.loop-k.invariant in
    let size = s.size in
    let none : Form = record { coef = []; constant = pos 0 } in
    let x = get_or c.as_slice.result.now c.loop-k.k none in
    let l : c.loop-k.k < length c.loop-k.rows = search rules in
    let m : c.loop-k.k < length c.args.rows.now = omega (arith, size) in
    let e = sym (ap (λ (fs : List Form). get_or fs c.loop-k.k none) c.as_slice.ensures ∙ s.rest c.loop-k.k none (omega arith)) in
    let f : FitsSigned w64 x.constant = search rules in
    elim c.match-divided.branch [
      | in-Some w ↦ rw (w.kept-is, w.rows-is) (sofar_placed c.args.dim c.args.rows.now c.loop-k.rows _ c.loop-k.kept c.loop-k.k _ x none w.in-Some.new s m e w.in-Some.ensures.divided w.in-Some.ensures.small w.placed-kept.ensures)
      | in-None+else-row-lt0 w ↦ rw (w.kept-is, w.rows-is) (sofar_constant c.args.dim c.args.rows.now c.loop-k.rows c.loop-k.kept c.loop-k.k x none s m e w.in-None.ensures.none (not_negative x.constant f w.if-row-lt0.false))
    ]

pub returns-clause-small : goal.returns-clause-small
returns-clause-small c = grind (arith, common_steps)

pub loop-k-init : goal.loop-k-init
loop-k-init c = grind (arith, common_steps)

pub set-requires : goal.set-requires
set-requires c = grind (arith, common_steps)
