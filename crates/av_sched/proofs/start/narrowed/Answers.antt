use Rattle.std.proofs.Common.{◌≡◌, rules, arith, pos, ◌+ℤ◌, ◌≤ℤ◌, ◌<ℤ◌, [], ◌∷◌, w64, FitsSigned, to_z-of_z, sym}
use Rattle.std.proofs.lemmas.Int.{ints}
use Rattle.std.proofs.lemmas.Grind.{common_steps}
use Rattle.av_affine.specs.Numbers.{dot}
use Rattle.av_poly.specs.Points.{Has}
use Rattle.av_tree.specs.Points.{Point}
use Rattle.av_sched.specs.inner.Starts.{row_at_most}
use Rattle.av_sched.proofs.Halving.{in_part, into_part, lower_value, higher_low, closer_below, closer_above}
use Rattle.av_sched.proofs.start.narrowed.Goals as goal

pub returns-in-Some-clause-spanned : goal.returns-in-Some-clause-spanned
returns-in-Some-clause-spanned c =
    let d = c.args.domain.now in
    let a = c.args.linear.now in
    let m = c.middle_of-middle.result in
    let x = c.products.result in
    let z = c.in-Some.z in
    let fl : FitsSigned w64 c.args.low = search rules in
    let fv : FitsSigned w64 c.args.value = search rules in
    let fm : FitsSigned w64 m = search rules in
    let fx : FitsSigned w64 x = search rules in
    let below : m <ℤ c.args.value = simp to_z-of_z at c.middle_of-middle.ensures.below in
    let dim : c.in_ok-part.part.dim ≡ d.dim = search rules in
    let rows : c.in_ok-part.part.rows ≡ row_at_most a m ∷ [] = simp to_z-of_z at c.in_ok-part.ensures.rows in
    let both = (c.in_ok-cut.ensures.points z).0 c.in-Some.ensures.found.0 in
    let value : x ≡ dot a z = search rules in
    let most : dot a z ≤ℤ m = in_part c.in_ok-part.part d.dim a z m dim rows c.requires.size c.requires.dim both.1 in
    simp to_z-of_z (lower_value d a c.args.low c.args.value m x z c.requires.spanned both.0 (sym value) (omega (arith, ints, value, most)) below)

pub returns-in-Some-clause-closer : goal.returns-in-Some-clause-closer
returns-in-Some-clause-closer c =
    let d = c.args.domain.now in
    let a = c.args.linear.now in
    let m = c.middle_of-middle.result in
    let x = c.products.result in
    let z = c.in-Some.z in
    let fl : FitsSigned w64 c.args.low = search rules in
    let fv : FitsSigned w64 c.args.value = search rules in
    let fm : FitsSigned w64 m = search rules in
    let fx : FitsSigned w64 x = search rules in
    let above : c.args.low ≤ℤ m = simp to_z-of_z at c.middle_of-middle.ensures.above in
    let below : m <ℤ c.args.value = simp to_z-of_z at c.middle_of-middle.ensures.below in
    let dim : c.in_ok-part.part.dim ≡ d.dim = search rules in
    let rows : c.in_ok-part.part.rows ≡ row_at_most a m ∷ [] = simp to_z-of_z at c.in_ok-part.ensures.rows in
    let both = (c.in_ok-cut.ensures.points z).0 c.in-Some.ensures.found.0 in
    let value : x ≡ dot a z = search rules in
    let most : dot a z ≤ℤ m = in_part c.in_ok-part.part d.dim a z m dim rows c.requires.size c.requires.dim both.1 in
    let least = c.requires.spanned.none_below z both.0 in
    simp to_z-of_z (closer_below c.args.low c.args.value m x above below (omega (arith, ints, value, most)) (omega (arith, ints, value, least)))

pub returns-clause-spanned : goal.returns-clause-spanned
returns-clause-spanned c =
    let d = c.args.domain.now in
    let a = c.args.linear.now in
    let m = c.middle_of-middle.result in
    let fl : FitsSigned w64 c.args.low = search rules in
    let fv : FitsSigned w64 c.args.value = search rules in
    let fm : FitsSigned w64 m = search rules in
    let above : c.args.low ≤ℤ m = simp to_z-of_z at c.middle_of-middle.ensures.above in
    let below : m <ℤ c.args.value = simp to_z-of_z at c.middle_of-middle.ensures.below in
    let low_small = c.requires.spanned.low_small in
    let value_small = c.requires.spanned.value_small in
    let fn : FitsSigned w64 (m +ℤ pos 1) = omega (arith, ints, above, below, low_small, value_small) in
    let dim : c.in_ok-part.part.dim ≡ d.dim = search rules in
    let rows : c.in_ok-part.part.rows ≡ row_at_most a m ∷ [] = simp to_z-of_z at c.in_ok-part.ensures.rows in
    let cut = c.in_ok-cut.cut in
    let none : (z : Point) → Has d z → dot a z ≤ℤ m → ⊥ = λ z h l.
    let part = into_part c.in_ok-part.part d.dim a z m dim rows c.requires.size c.requires.dim h.dimension l in
    let in_cut = (c.in_ok-cut.ensures.points z).1 (h, part) in
    c.in-None.ensures.none z in_cut (c.requires.inside.between z h) in
    simp to_z-of_z (higher_low d a c.args.low c.args.value m c.requires.spanned none above below)

pub returns-clause-closer : goal.returns-clause-closer
returns-clause-closer c =
    let m = c.middle_of-middle.result in
    let fl : FitsSigned w64 c.args.low = search rules in
    let fv : FitsSigned w64 c.args.value = search rules in
    let fm : FitsSigned w64 m = search rules in
    let above : c.args.low ≤ℤ m = simp to_z-of_z at c.middle_of-middle.ensures.above in
    let below : m <ℤ c.args.value = simp to_z-of_z at c.middle_of-middle.ensures.below in
    let low_small = c.requires.spanned.low_small in
    let value_small = c.requires.spanned.value_small in
    let fn : FitsSigned w64 (m +ℤ pos 1) = omega (arith, ints, above, below, low_small, value_small) in
    simp to_z-of_z (closer_above c.args.low c.args.value m above below)

pub products-requires-clause-z : goal.products-requires-clause-z
products-requires-clause-z c = grind (arith, common_steps)

pub products-requires-clause-linear : goal.products-requires-clause-linear
products-requires-clause-linear c = grind (arith, common_steps)

pub first_point-requires-clause-high : goal.first_point-requires-clause-high
first_point-requires-clause-high c = assumption

pub first_point-requires-clause-low : goal.first_point-requires-clause-low
first_point-requires-clause-low c = assumption
