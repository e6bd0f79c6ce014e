use mir.Syntax.{w128}
use Rattle.std.proofs.Common.{◌≡◌, ◌≤◌, ℤ, pos, get_or, ◌+ℤ◌, unsigned_abs, to_z, of_z, w64, FitsSigned, to_z-of_z, ap, ◌∙◌, arith, rules}
use Rattle.std.proofs.lemmas.Int.{ints, fits_signed_from_abs}
use Rattle.av_affine.proofs.Dots.{entry_most}
use Rattle.av_data.proofs.Walked.{cut_at, cut_low, cut_high, cut_between, between_cut}
use Rattle.av_data.proofs.missing.behind.Goals as goal

-- one more than a small entry, as the code computes it
one_more : (x r : ℤ) → unsigned_abs x ≤ 4095 → r ≡ to_z w64 (of_z w64 x) → to_z w128 (of_z w128 (to_z w128 (of_z w128 r) +ℤ pos 1)) ≡ x +ℤ pos 1
one_more x r small e =
    let fits : FitsSigned w64 x = fits_signed_from_abs w64 x (omega (arith, ints, small)) in
    let is : r ≡ x = e ∙ simp to_z-of_z in
    let most : unsigned_abs r ≤ 4095 = rw is small in
    let wide : FitsSigned w128 r = fits_signed_from_abs w128 r (omega (arith, ints, most)) in
    let next : FitsSigned w128 (r +ℤ pos 1) = fits_signed_from_abs w128 (r +ℤ pos 1) (omega (arith, ints, most)) in
    simp (to_z-of_z) (ap (λ (v : ℤ). v +ℤ pos 1) is)

pub returns-clause-low : goal.returns-clause-low
returns-clause-low c =
    let e = c.args.extent.now in
    let z = c.args.z.now in
    let i = c.args.index in
    cut_low e.low e.high z i _ c.loop-k.high
    (cut_at e.low e.high z c.loop-k.k i c.loop-k.low c.loop-k.high _ c.loop-k.invariant (omega arith) (omega (arith, c.requires.within, c.requires.few)) (one_more (get_or z i (pos 0)) c.from-2.result (entry_most 4095 z i c.requires.small) c.from-2.ensures))
    c.requires.within c.requires.few (search rules) (search rules) c.requires.low c.requires.high c.requires.small c.requires.below

pub returns-clause-high : goal.returns-clause-high
returns-clause-high c =
    let e = c.args.extent.now in
    let z = c.args.z.now in
    let i = c.args.index in
    cut_high e.low e.high z i _ c.loop-k.high
    (cut_at e.low e.high z c.loop-k.k i c.loop-k.low c.loop-k.high _ c.loop-k.invariant (omega arith) (omega (arith, c.requires.within, c.requires.few)) (one_more (get_or z i (pos 0)) c.from-2.result (entry_most 4095 z i c.requires.small) c.from-2.ensures))
    c.requires.within c.requires.few (search rules) (search rules) c.requires.high c.requires.small

pub returns-clause-between : goal.returns-clause-between
returns-clause-between c =
    let e = c.args.extent.now in
    let z = c.args.z.now in
    let i = c.args.index in
    cut_between e.low e.high z i _ c.loop-k.high
    (cut_at e.low e.high z c.loop-k.k i c.loop-k.low c.loop-k.high _ c.loop-k.invariant (omega arith) (omega (arith, c.requires.within, c.requires.few)) (one_more (get_or z i (pos 0)) c.from-2.result (entry_most 4095 z i c.requires.small) c.from-2.ensures))
    c.requires.within c.requires.few (search rules) (search rules)

pub returns-clause-behind : goal.returns-clause-behind
returns-clause-behind c =
    let e = c.args.extent.now in
    let z = c.args.z.now in
    let i = c.args.index in
    between_cut e.low e.high z i _ c.loop-k.high
    (cut_at e.low e.high z c.loop-k.k i c.loop-k.low c.loop-k.high _ c.loop-k.invariant (omega arith) (omega (arith, c.requires.within, c.requires.few)) (one_more (get_or z i (pos 0)) c.from-2.result (entry_most 4095 z i c.requires.small) c.from-2.ensures))
    c.requires.within c.requires.few (search rules) (search rules)
