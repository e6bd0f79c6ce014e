use Rattle.std.proofs.Common.{◌≡◌, ◌++◌, arith, refl, inl, inr}
use Rattle.std.proofs.lemmas.Int.{ints}
use Rattle.av_affine.specs.Numbers.{greatest}
use Rattle.av_normal.proofs.Boxes.{greatest_append, most_at}
use Rattle.av_normal.proofs.box_limit.quantity_over.Goals as goal

pub returns-then-coordinate-gt-MOST_COORDINATE-clause-over : goal.returns-then-coordinate-gt-MOST_COORDINATE-clause-over
returns-then-coordinate-gt-MOST_COORDINATE-clause-over c =
    let low = c.args.extent.now.low in
    let high = c.args.extent.now.high in
    let g = greatest_append low high in
    let e : c.max-coordinate.result ≡ greatest (low ++ high) = omega (arith, g) in
    inl (refl, e, omega arith)

pub points_of-points-requires-clause-low : goal.points_of-points-requires-clause-low
points_of-points-requires-clause-low c = most_at 4095 c.args.extent.now.low (omega arith)

pub points_of-points-requires-clause-high : goal.points_of-points-requires-clause-high
points_of-points-requires-clause-high c = most_at 4095 c.args.extent.now.high (omega arith)

pub returns-then-points-gt-MOST_POINTS-clause-over : goal.returns-then-points-gt-MOST_POINTS-clause-over
returns-then-points-gt-MOST_POINTS-clause-over c =
    let low = c.args.extent.now.low in
    let high = c.args.extent.now.high in
    let g = greatest_append low high in
    inr (refl, omega (arith, g), omega (arith, ints), omega (arith, ints))

pub returns-clause-within : goal.returns-clause-within
returns-clause-within c =
    let low = c.args.extent.now.low in
    let high = c.args.extent.now.high in
    let g = greatest_append low high in
    (omega (arith, g), omega (arith, ints))
