use mir.Syntax.{w128}
use Rattle.std.proofs.Common.{◌≡◌, ◌≤◌, ◌-◌, ℤ, pos, false, List, get_or, sym, subst, ap, ◌≤ℤ◌, unsigned_abs, to_z, of_z, w64, FitsSigned, to_z-of_z, ◌∙◌, arith}
use Rattle.std.specs.Int.Signed.{lt_z}
use Rattle.std.proofs.lemmas.Int.{ints, fits_signed_from_abs}
use Rattle.av_affine.specs.Numbers.{AtMost}
use Rattle.av_affine.proofs.Dots.{entry_most}
use Rattle.av_tree.specs.Points.{Point}
use Rattle.av_data.proofs.Walked.{IsPart, NoneFrom, between_small, none_top, none_part, next_found, none_behind, none_of_none}
use Rattle.av_data.proofs.missing.point_after.Goals as goal

-- what the test of an entry against the greatest one tells
at_top : (x h r : ℤ) → unsigned_abs x ≤ 4095 → unsigned_abs h ≤ 4095 → r ≡ to_z w64 (of_z w64 x) → lt_z (to_z w128 (of_z w128 r)) (to_z w128 (of_z w128 h)) ≡ false → h ≤ℤ x
at_top x h r small most e f =
    let fits : FitsSigned w64 x = fits_signed_from_abs w64 x (omega (arith, ints, small)) in
    let is : r ≡ x = e ∙ simp to_z-of_z in
    let also : unsigned_abs r ≤ 4095 = rw is small in
    let wide : FitsSigned w128 r = fits_signed_from_abs w128 r (omega (arith, ints, also)) in
    let top : FitsSigned w128 h = fits_signed_from_abs w128 h (omega (arith, ints, most)) in
    let test : lt_z r h ≡ false = sym (simp to_z-of_z) ∙ f in
    rw (sym is) (grind (arith, ints))

pub behind-requires-clause-small : goal.behind-requires-clause-small
behind-requires-clause-small c =
    let z = c.args.z.now in
    subst (AtMost 4095) (sym c.as_slice-entries.ensures.value) (between_small c.args.extent.now.low c.args.extent.now.high z c.requires.low c.requires.high (c.requires.inside.between z c.requires.has))

pub returns-then-is_some-clause-some : goal.returns-then-is_some-clause-some
returns-then-is_some-clause-some c =
    let e = c.args.extent.now in
    let p = c.behind.result in
    let part : IsPart e.low e.high c.args.z.now (c.loop-index.index - 1) p.low p.high =
    subst (λ (z : Point). IsPart e.low e.high z (c.loop-index.index - 1) p.low p.high) c.as_slice-entries.ensures.value (record { between = c.behind.ensures.between; behind = c.behind.ensures.behind }) in
    next_found c.args.set.now c.args.z.now c.requires.has e.low e.high c.requires.inside.between c.loop-index.index c.loop-index-test.true c.loop-index.invariant.0 c.loop-index.invariant.1 p.low p.high part c.first_point-found.result
    c.first_point-found.ensures.found c.first_point-found.ensures.least

pub loop-index-preserved-else-is_some : goal.loop-index-preserved-else-is_some
loop-index-preserved-else-is_some c =
    let e = c.args.extent.now in
    let p = c.behind.result in
    let part : IsPart e.low e.high c.args.z.now (c.loop-index.index - 1) p.low p.high =
    subst (λ (z : Point). IsPart e.low e.high z (c.loop-index.index - 1) p.low p.high) c.as_slice-entries.ensures.value (record { between = c.behind.ensures.between; behind = c.behind.ensures.behind }) in (
      omega (arith, c.loop-index.invariant.0),
      none_part c.args.set.now c.args.z.now c.requires.has e.low e.high c.requires.inside.between c.loop-index.index c.loop-index-test.true c.loop-index.invariant.0 c.loop-index.invariant.1 p.low p.high part
          (none_of_none c.first_point-found.result (sym c.is_some.ensures ∙ c.if-is_some.false) c.first_point-found.ensures.none),
    )

pub loop-index-preserved : goal.loop-index-preserved
loop-index-preserved c =
    let e = c.args.extent.now in
    let z = c.args.z.now in
    let i = c.loop-index.index - 1 in
    let small : AtMost 4095 z = between_small e.low e.high z c.requires.low c.requires.high (c.requires.inside.between z c.requires.has) in (
      omega (arith, c.loop-index.invariant.0),
      none_top c.args.set.now z c.requires.has e.low e.high c.requires.inside.between c.loop-index.index c.loop-index-test.true c.loop-index.invariant.0 c.loop-index.invariant.1
          (at_top (get_or z i (pos 0)) (get_or e.high i (pos 0)) c.from.result (entry_most 4095 z i small) (entry_most 4095 e.high i c.requires.high)
          (c.from.ensures ∙ ap (λ (es : List ℤ). to_z w64 (of_z w64 (get_or es i (pos 0)))) c.as_slice-entries.ensures.value) c.if-from-extent.false),
    )

pub returns-clause-none : goal.returns-clause-none
returns-clause-none c =
    let none : c.loop-index.index ≡ 0 = omega (arith, c.loop-index-test.false) in
    none_behind c.args.set.now c.args.z.now c.requires.has (subst (NoneFrom c.args.set.now c.args.z.now) none c.loop-index.invariant.1)
