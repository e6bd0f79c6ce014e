use Rattle.std.proofs.Common.{rules, ◌<◌, ◌≤◌, ◌∙◌, sym, ap, subst, arith, ℤ, pos, ◌+ℤ◌, List, [], ◌∷◌, length, length-append, FitsSigned, to_z, to_z-of_z, w64}
use mir.Syntax.{w128}
use Rattle.std.specs.Int.RustNames.{unsigned_abs}
use Rattle.std.proofs.lemmas.Int.{ints, fits_signed_from_abs}
use Rattle.std.proofs.lemmas.List.{length-drop}
use Rattle.std.proofs.lemmas.List.Elements.{All-push, All-take, All-drop}
use Rattle.std.proofs.lemmas.Grind.{common_steps}
use Rattle.av_affine.specs.Numbers.{AtMost}
use Rattle.av_affine.proofs.Dots.{entry_most}
use Rattle.av_poly.specs.Search.{CanFollow}
use Rattle.av_poly.specs.inner.Search.{IsFirstFrom}
use Rattle.av_poly.proofs.Ends.{at_most_end, past_end}
use Rattle.av_poly.proofs.Searching.{later, later_is, first_more, passed_more, none_left, none_of, some_weaker}
use Rattle.av_poly.proofs.search.+first_from.Goals as goal

pub overflow_cast-value : goal.overflow_cast-value
overflow_cast-value t c =
    let v = to_z w128 c.loop-value.value-bits in
    let top = c.interval_of-span.result.high in
    let f : FitsSigned w128 top = search rules in
    let a = entry_most 4095 c.args.low.now 0 c.requires.low in
    let b = entry_most 4095 c.args.high.now 0 c.requires.high in
    let above = c.loop-value.invariant.above in
    let h = at_most_end v top (omega (arith, ints, b, c.interval_of-span.ensures.below)) f c.loop-value-test.true in
    fits_signed_from_abs w64 v (omega (arith, ints, a, b, above, h, c.interval_of-span.ensures.below))

pub first_from-found-requires : goal.first_from-found-requires
first_from-found-requires t c =
    let v = to_z w128 c.loop-value.value-bits in
    let low = c.args.low.now in
    let high = c.args.high.now in
    let top = c.interval_of-span.result.high in
    let f : FitsSigned w128 top = search rules in
    let a = entry_most 4095 low 0 c.requires.low in
    let b = entry_most 4095 high 0 c.requires.high in
    let above = c.loop-value.invariant.above in
    let h = at_most_end v top (omega (arith, ints, b, c.interval_of-span.ensures.below)) f c.loop-value-test.true in
    let g : FitsSigned w64 v = fits_signed_from_abs w64 v (omega (arith, ints, a, b, above, h, c.interval_of-span.ensures.below)) in
    let some : 0 < length low = search rules in
    let e = c.as_slice.ensures.value ∙ simp to_z-of_z at c.extended-next.ensures in
    let n = ap length e ∙ length-append c.args.fixed.now (v ∷ []) in
    let small = subst (AtMost 4095) (sym e) (All-push (λ (x : ℤ). unsigned_abs x ≤ 4095) c.args.fixed.now v c.requires.fixed (omega (arith, ints, a, b, above, h, c.interval_of-span.ensures.below))) in
    let cut = ap length (later_is low) ∙ length-drop 1 low in
    let cut' = ap length (later_is high) ∙ length-drop 1 high in
    (search rules, (c.requires.rows, (small, (All-take (λ (x : ℤ). unsigned_abs x ≤ 4095) _ _ (All-drop (λ (x : ℤ). unsigned_abs x ≤ 4095) 1 low c.requires.low), (All-take (λ (x : ℤ). unsigned_abs x ≤ 4095) _ _ (All-drop (λ (x : ℤ). unsigned_abs x ≤ 4095) 1 high c.requires.high), (omega (arith, cut, cut', c.requires.same), omega (arith, n, cut, some, c.requires.fits)))))))

pub returns-then-is_some-clause-some : goal.returns-then-is_some-clause-some
returns-then-is_some-clause-some t c =
    let v = to_z w128 c.loop-value.value-bits in
    let rows = c.args.rows.now in
    let fixed = c.args.fixed.now in
    let low = c.args.low.now in
    let high = c.args.high.now in
    let top = c.interval_of-span.result.high in
    let f : FitsSigned w128 top = search rules in
    let a = entry_most 4095 low 0 c.requires.low in
    let b = entry_most 4095 high 0 c.requires.high in
    let above = c.loop-value.invariant.above in
    let h = at_most_end v top (omega (arith, ints, b, c.interval_of-span.ensures.below)) f c.loop-value-test.true in
    let g : FitsSigned w64 v = fits_signed_from_abs w64 v (omega (arith, ints, a, b, above, h, c.interval_of-span.ensures.below)) in
    let some : 0 < length low = search rules in
    let e = c.as_slice.ensures.value ∙ simp to_z-of_z at c.extended-next.ensures in
    some_weaker (IsFirstFrom rows c.as_slice.result.now (later low) (later high)) (IsFirstFrom rows fixed low high)
    (λ p s. first_more rows fixed low high p v some c.requires.same above (omega (arith, ints, h, c.interval_of-span.ensures.below)) c.loop-value.invariant.passed
    (subst (λ (xs : List ℤ). IsFirstFrom rows xs (later low) (later high) p) e s))
    c.first_from-found.result c.first_from-found.ensures.some

pub loop-value-preserved : goal.loop-value-preserved
loop-value-preserved t c =
    let v = to_z w128 c.loop-value.value-bits in
    let rows = c.args.rows.now in
    let fixed = c.args.fixed.now in
    let low = c.args.low.now in
    let high = c.args.high.now in
    let top = c.interval_of-span.result.high in
    let f : FitsSigned w128 top = search rules in
    let a = entry_most 4095 low 0 c.requires.low in
    let b = entry_most 4095 high 0 c.requires.high in
    let above = c.loop-value.invariant.above in
    let h = at_most_end v top (omega (arith, ints, b, c.interval_of-span.ensures.below)) f c.loop-value-test.true in
    let g : FitsSigned w64 v = fits_signed_from_abs w64 v (omega (arith, ints, a, b, above, h, c.interval_of-span.ensures.below)) in
    let i : FitsSigned w128 (v +ℤ pos 1) = fits_signed_from_abs w128 (v +ℤ pos 1) (omega (arith, ints, a, b, above, h, c.interval_of-span.ensures.below)) in
    let e = c.as_slice.ensures.value ∙ simp to_z-of_z at c.extended-next.ensures in
    let none = none_of c.first_from-found.result ((rest : List ℤ) → CanFollow rows c.as_slice.result.now (later low) (later high) rest → ⊥) (sym c.is_some.ensures ∙ c.if-is_some.false) c.first_from-found.ensures.none in
    record {
      above = simp to_z-of_z (omega (arith, ints, above));
      passed = λ x rest k. simp to_z-of_z (passed_more rows fixed low high v c.loop-value.invariant.passed (λ r q. none r (subst (λ (xs : List ℤ). CanFollow rows xs (later low) (later high) r) (sym e) q)) x rest k);
    }

pub returns-clause-none : goal.returns-clause-none
returns-clause-none t c =
    let v = to_z w128 c.loop-value.value-bits in
    let top = c.interval_of-span.result.high in
    let f : FitsSigned w128 top = search rules in
    let b = entry_most 4095 c.args.high.now 0 c.requires.high in
    let some : 0 < length c.args.low.now = search rules in
    let h = past_end v top (omega (arith, ints, b, c.interval_of-span.ensures.below)) f c.loop-value-test.false in
    none_left c.args.rows.now c.args.fixed.now c.args.low.now c.args.high.now v top some c.loop-value.invariant.passed (λ y rest n b h. (c.interval_of-span.ensures.keeps y rest n b h).1) h

pub loop-value-init : goal.loop-value-init
loop-value-init t c = grind (arith, common_steps)

pub returns-then-is_some-clause-none : goal.returns-then-is_some-clause-none
returns-then-is_some-clause-none t c = grind (arith, common_steps)

pub returns-else-each_holds-clause-none : goal.returns-else-each_holds-clause-none
returns-else-each_holds-clause-none t c = grind (arith, common_steps)

pub overflow_add-value-end : goal.overflow_add-value-end
overflow_add-value-end t c = grind (arith, common_steps)
