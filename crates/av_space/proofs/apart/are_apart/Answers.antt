use Rattle.std.proofs.Common.{◌≡◌, ◌-◌, ◌<◌, List, length, get_or, sym, subst, arith, rules}
use Rattle.std.proofs.lemmas.Option.{slice_get-get_or}
use Rattle.av_affine.specs.declared.form.Form.{Form}
use Rattle.av_poly.specs.Points.{Holds}
use Rattle.av_space.proofs.OffCells.{none_of_rows}
use Rattle.av_space.proofs.apart.are_apart.Goals as goal

pub one_is_below_both-requires-clause-first : goal.one_is_below_both-requires-clause-first
one_is_below_both-requires-clause-first c =
    let some : 0 < length c.args.slots.now = omega arith in
    (c.requires.points 0 c.index-slots-0.result some).entries

pub one_is_below_both-requires-clause-last : goal.one_is_below_both-requires-clause-last
one_is_below_both-requires-clause-last c =
    let some : 0 < length c.args.slots.now = omega arith in
    (c.requires.points (length c.args.slots.now - 1) c.index-slots-slots.result (omega (arith, some))).entries

pub returns : goal.returns
returns c = λ t.
    let slots = c.args.slots.now in
    let some : 0 < length slots = omega arith in
    let x = c.index-slots-0.result in
    let y = c.index-slots-slots.result in
    let first = get_or slots 0 x in
    let last = get_or slots (length slots - 1) y in
    let is_first = slice_get-get_or slots 0 x some in
    let is_last = slice_get-get_or slots (length slots - 1) y (omega (arith, some)) in
    let same : c.as_slice.result.now ≡ c.args.set.now.rows = search rules in
    none_of_rows c.args.set.now first.point last.point slots (c.requires.ends first last is_first is_last)
    (λ z between h. c.one_is_below_both.ensures t z between (subst (λ (rows : List Form). Holds rows z) (sym same) h))
