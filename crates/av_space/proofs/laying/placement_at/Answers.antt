use Rattle.std.proofs.Common.{◌≡◌, ◌∙◌, ◌<◌, Some, List, length, arith, sym, subst, ap, All}
use Rattle.std.specs.Prelude.{slice_get}
use Rattle.std.proofs.lemmas.Option.{slice_get-get_or}
use Rattle.av_space.specs.Coordinates.{Placing, IsPlacing}
use Rattle.av_space.proofs.Laid.{placings_number, placing_time}
use Rattle.av_space.proofs.laying.placement_at.Goals as goal

pub bounds-as_slice-node : goal.bounds-as_slice-node
bounds-as_slice-node c =
    let m = placings_number c.args.timed.now c.args.placements.now c.len-count.ensures.legal c.requires.placings in
    let e = ap (λ (ps : List Placing). length ps) c.as_slice.ensures in
    let within = c.requires.within in
    omega (arith, m, e, within)

pub offset_bounds-as_slice-node : goal.offset_bounds-as_slice-node
offset_bounds-as_slice-node c =
    let m = placings_number c.args.timed.now c.args.placements.now c.len-count.ensures.legal c.requires.placings in
    let e = ap (λ (ps : List Placing). length ps) c.as_slice.ensures in
    let within = c.requires.within in
    let t = c.as_slice.type_inv.1 in
    omega (arith, m, e, within, t)

pub returns : goal.returns
returns c =
    let t = c.args.timed.now in
    let all = c.args.placements.now in
    let n = c.args.node.0 in
    let ps = c.as_slice.result.now in
    let p = c.index-as_slice-node.result in
    let m = placings_number t all c.len-count.ensures.legal c.requires.placings in
    let e = ap (λ (qs : List Placing). length qs) c.as_slice.ensures in
    let within = c.requires.within in
    let l : n < length ps = omega (arith, m, e, within) in
    let is : slice_get all n ≡ Some p = ap (λ (qs : List Placing). slice_get qs n) (sym c.as_slice.ensures) ∙ slice_get-get_or ps n p l ∙ ap Some (sym c.index-as_slice-node.is) in
    let each = subst (All IsPlacing) (sym c.as_slice.ensures) c.requires.placings.each in
    record { is = is; placing = subst IsPlacing (sym c.index-as_slice-node.is) (each n p l); time = placing_time t.times all n p c.requires.placings is }
