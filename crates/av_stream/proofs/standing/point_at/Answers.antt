use Rattle.std.proofs.Common.{◌≡◌, ◌≤◌, ◌^◌, ◌∷◌, ℤ, List, Some, length, pos, ◌-ℤ◌, sym, ap, subst, ◌∙◌, arith, to_z, of_z, w64}
use Rattle.std.specs.Prelude.{unsigned_abs}
use Rattle.std.proofs.lemmas.Int.{ints}
use Rattle.std.proofs.lemmas.Option.{IfSome_then}
use Rattle.std.proofs.lemmas.List.Elements.{All-cons, All-weaker}
use Rattle.av_affine.specs.Numbers.{dot, AtMost}
use Rattle.av_affine.specs.Completion.{first_row, rows_of}
use Rattle.av_space.specs.Coordinates.{along}
use Rattle.av_stream.specs.inner.Standing.{placing_by, StandsAt}
use Rattle.av_stream.proofs.Images.{as_narrow}
use Rattle.av_stream.proofs.StandingPoints.{factor_small, divides, given_back, stands_there, size_below, none_then}
use Rattle.av_stream.proofs.standing.point_at.Goals as goal

pub returns-in_err-number-clause-none : goal.returns-in_err-number-clause-none
returns-in_err-number-clause-none c =
    let p = c.args.placed.now in
    rw c.from_residual.ensures (λ z small stands. c.in_err-number.ensures.none (dot (first_row p.m) z) (divides c.args.time.now p c.requires.matrix c.args.at.now c.args.cycle z stands))

pub before-requires : goal.before-requires
before-requires c = size_below c.args.time.now c.args.placed.now c.requires.matrix c.args.at.now c.requires.size

pub image-requires-clause-size : goal.image-requires-clause-size
image-requires-clause-size c =
    let is = c.requires.matrix in
    omega (arith, is.size_of_inverse, c.requires.size, ap length c.as_slice.ensures.value, ap length c.before-2.ensures)

pub image-requires-clause-few : goal.image-requires-clause-few
image-requires-clause-few c =
    let below = size_below c.args.time.now c.args.placed.now c.requires.matrix c.args.at.now c.requires.size in
    omega (arith, below, ap length c.as_slice.ensures.value, ap length c.before-2.ensures)

pub image-requires-clause-fits : goal.image-requires-clause-fits
image-requires-clause-fits c =
    let p = c.args.placed.now in
    let n = c.in_ok-number.number in
    let since : unsigned_abs (pos c.args.cycle -ℤ c.args.time.now.offset) ≤ 2 ^ 18 = omega (arith, ints, c.requires.near, c.requires.timely) in
    let small : unsigned_abs n ≤ 2 ^ 18 = factor_small n p.gcd (pos c.args.cycle -ℤ c.args.time.now.offset) (2 ^ 18) c.requires.matrix.positive c.in_ok-number.ensures.some since in
    let kept : to_z w64 (of_z w64 n) ≡ n = as_narrow n (omega (arith, small)) in
    let rest = All-weaker (λ (x : ℤ). unsigned_abs x ≤ 2 ^ 17) (λ (x : ℤ). unsigned_abs x ≤ 2 ^ 18) (λ x le. omega (arith, le)) c.args.at.now c.requires.small in
    subst (AtMost (2 ^ 18)) (sym (c.as_slice.ensures.value ∙ c.before-2.ensures ∙ ap (λ (x : ℤ). x ∷ c.args.at.now) kept)) (All-cons (λ (x : ℤ). unsigned_abs x ≤ 2 ^ 18) n c.args.at.now small rest)

pub returns-clause-some : goal.returns-clause-some
returns-clause-some c =
    let p = c.args.placed.now in
    let time = c.args.time.now in
    let n = c.in_ok-number.number in
    let since : unsigned_abs (pos c.args.cycle -ℤ time.offset) ≤ 2 ^ 18 = omega (arith, ints, c.requires.near, c.requires.timely) in
    let small : unsigned_abs n ≤ 2 ^ 18 = factor_small n p.gcd (pos c.args.cycle -ℤ time.offset) (2 ^ 18) c.requires.matrix.positive c.in_ok-number.ensures.some since in
    let entries : c.as_slice.result.now ≡ n ∷ c.args.at.now = c.as_slice.ensures.value ∙ c.before-2.ensures ∙ ap (λ (x : ℤ). x ∷ c.args.at.now) (as_narrow n (omega (arith, small))) in
    IfSome_then c.image.result {Q = StandsAt (placing_by time (Some p)) c.args.at.now c.args.cycle} c.image.ensures.some
    (λ z h. stands_there time p c.requires.matrix c.args.at.now c.args.cycle n z c.requires.size c.in_ok-number.ensures.some (h.0 ∙ ap (along (rows_of p.inverse)) entries))

pub returns-clause-small : goal.returns-clause-small
returns-clause-small c = IfSome_then c.image.result {Q = AtMost 4095} c.image.ensures.some (λ z h. h.1)

pub returns-clause-only : goal.returns-clause-only
returns-clause-only c =
    let p = c.args.placed.now in
    let time = c.args.time.now in
    let n = c.in_ok-number.number in
    let since : unsigned_abs (pos c.args.cycle -ℤ time.offset) ≤ 2 ^ 18 = omega (arith, ints, c.requires.near, c.requires.timely) in
    let small : unsigned_abs n ≤ 2 ^ 18 = factor_small n p.gcd (pos c.args.cycle -ℤ time.offset) (2 ^ 18) c.requires.matrix.positive c.in_ok-number.ensures.some since in
    let entries : c.as_slice.result.now ≡ n ∷ c.args.at.now = c.as_slice.ensures.value ∙ c.before-2.ensures ∙ ap (λ (x : ℤ). x ∷ c.args.at.now) (as_narrow n (omega (arith, small))) in
    IfSome_then c.image.result {Q = λ z. (y : List ℤ) → StandsAt (placing_by time (Some p)) c.args.at.now c.args.cycle y → y ≡ z} c.image.ensures.some
    (λ z h y stands. given_back time p c.requires.matrix c.args.at.now c.args.cycle n y c.in_ok-number.ensures.some stands ∙ sym (h.0 ∙ ap (along (rows_of p.inverse)) entries))

pub returns-clause-none : goal.returns-clause-none
returns-clause-none c =
    let p = c.args.placed.now in
    let time = c.args.time.now in
    let n = c.in_ok-number.number in
    let since : unsigned_abs (pos c.args.cycle -ℤ time.offset) ≤ 2 ^ 18 = omega (arith, ints, c.requires.near, c.requires.timely) in
    let small : unsigned_abs n ≤ 2 ^ 18 = factor_small n p.gcd (pos c.args.cycle -ℤ time.offset) (2 ^ 18) c.requires.matrix.positive c.in_ok-number.ensures.some since in
    let entries : c.as_slice.result.now ≡ n ∷ c.args.at.now = c.as_slice.ensures.value ∙ c.before-2.ensures ∙ ap (λ (x : ℤ). x ∷ c.args.at.now) (as_narrow n (omega (arith, small))) in
    none_then c.image.result c.image.ensures.none
    (λ large z fits stands. large (subst (AtMost 4095) (given_back time p c.requires.matrix c.args.at.now c.args.cycle n z c.in_ok-number.ensures.some stands ∙ ap (along (rows_of p.inverse)) (sym entries)) fits))
