use Rattle.std.proofs.Common.{◌<◌, ◌∙◌, pos, List, [], length, get_or, slice_set, sym, ap, subst, arith, All}
use Rattle.av_affine.specs.declared.form.Form.{Form}
use Rattle.av_poly.specs.Points.{IsSmall}
use Rattle.av_serial.specs.inner.Lowered.{lower}
use Rattle.av_serial.proofs.Lowering.{length_images, small_lowered, one_lowered, one_left}
use Rattle.av_serial.proofs.choices.lower_first.Goals as goal
use Rattle.av_serial.proofs.choices.lower_first.Goals.{then-is_upper, else-is_upper}

pub bounds-as_slice-k : goal.bounds-as_slice-k
bounds-as_slice-k c =
    let e = length_images c.args.map.now c.args.last.now c.loop-k.k c.args.rows.now c.as_slice.result.now (c.as_slice.ensures ∙ c.loop-k.invariant) in
    let l = c.loop-k-test.true in
    let w = c.requires.within in
    omega (arith, e, l, w)

pub lower-lowered-requires : goal.lower-lowered-requires
lower-lowered-requires c =
    let e = length_images c.args.map.now c.args.last.now c.loop-k.k c.args.rows.now c.as_slice.result.now (c.as_slice.ensures ∙ c.loop-k.invariant) in
    let l = c.loop-k-test.true in
    let w = c.requires.within in
    let s = subst (λ (xs : List Form). All IsSmall xs) (sym (c.as_slice.ensures ∙ c.loop-k.invariant)) (small_lowered c.args.last.now c.requires.last c.requires.few c.args.map.now c.loop-k.k c.args.rows.now c.requires.rows) in
    (s c.loop-k.k (record { coef = []; constant = pos 0 }) (omega (arith, e, l, w))).constant

pub loop-k-preserved : goal.loop-k-preserved
loop-k-preserved c =
    let m = c.args.map.now in
    let last = c.args.last.now in
    let rows = c.args.rows.now in
    let k = c.loop-k.k in
    let none : Form = record { coef = []; constant = pos 0 } in
    let l : k < length rows = (let a = c.loop-k-test.true in let b = c.requires.within in omega (arith, a, b)) in
    elim c.if-is_upper.branch [
      | then-is_upper w ↦
          w.images-is ∙ w.set.ensures ∙ ap (λ (r : Form). slice_set c.loop-k.images k r) w.lower-lowered.ensures
          ∙ ap (λ (xs : List Form). slice_set c.loop-k.images k (lower (get_or xs k none))) w.as_slice.ensures
          ∙ ap (λ (xs : List Form). slice_set xs k (lower (get_or xs k none))) c.loop-k.invariant
          ∙ one_lowered m last rows k none none l (sym c.is_upper.ensures ∙ w.if-is_upper.true)
      | else-is_upper w ↦ w.images-is ∙ c.loop-k.invariant ∙ one_left m last rows k none l (sym c.is_upper.ensures ∙ w.if-is_upper.false)
    ]

pub returns-clause-small : goal.returns-clause-small
returns-clause-small c =
    subst (λ (xs : List Form). All IsSmall xs) (sym c.loop-k.invariant) (small_lowered c.args.last.now c.requires.last c.requires.few c.args.map.now c.loop-k.k c.args.rows.now c.requires.rows)
