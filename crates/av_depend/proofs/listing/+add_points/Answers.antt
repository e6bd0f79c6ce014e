use Rattle.std.proofs.Common.{rules, ◌≡◌, ◌<◌, ◌≤◌, ◌∙◌, ◌∷◌, sym, ap, subst, arith, ℤ, pos, ◌+ℤ◌, [], length, get_or, length-append, FitsSigned, to_z, of_z, to_z-of_z, w64}
use Rattle.std.specs.Prelude.{filter}
use Rattle.std.specs.Int.RustNames.{unsigned_abs}
use Rattle.std.proofs.lemmas.Int.{ints, fits_signed_from_abs}
use Rattle.std.proofs.lemmas.List.{length-drop}
use Rattle.std.proofs.lemmas.List.Elements.{All-push, All-take, All-drop}
use Rattle.std.proofs.lemmas.Result.{on_ok_weaker}
use Rattle.std.proofs.lemmas.Grind.{common_steps}
use Rattle.av_affine.specs.Numbers.{AtMost}
use Rattle.av_affine.proofs.Dots.{entry_most}
use Rattle.av_poly.proofs.Searching.{later, later_is}
use Rattle.av_tree.specs.Points.{Point}
use Rattle.av_flat.specs.Points.{has}
use Rattle.av_depend.specs.inner.Listing.{HasListed}
use Rattle.av_depend.proofs.Listed.{listed_here, added_none, added_next, added_through, at_most_end, past_end}
use Rattle.av_depend.proofs.listing.+add_points.Goals as goal

pub returns-then-is_empty : goal.returns-then-is_empty
returns-then-is_empty t c =
    let none : length c.args.low.now ≡ 0 = search rules in
    let size : length c.args.fixed.now ≡ c.args.set.now.dim = omega (arith, none, c.requires.size) in
    on_ok_weaker c.add_point.result (λ e. record { added = filter (has c.args.set.now) (c.args.fixed.now ∷ []); new_is = e; are = listed_here c.args.set.now c.args.fixed.now c.args.low.now c.args.high.now none size }) c.add_point.ensures

pub loop-value-init : goal.loop-value-init
loop-value-init t c =
    let low = c.args.low.now in
    let a = entry_most 4095 low 0 c.requires.low in
    let f : FitsSigned w64 (get_or low 0 (pos 0)) = fits_signed_from_abs w64 (get_or low 0 (pos 0)) (omega (arith, ints, a)) in
    let e : to_z w64 (of_z w64 (get_or low 0 (pos 0))) ≡ get_or low 0 (pos 0) = simp to_z-of_z in
    record {
      above = omega (arith, ints, e);
      added = added_none c.args.set.now c.args.fixed.now low c.args.high.now (to_z w64 (of_z w64 (get_or low 0 (pos 0)))) c.args.points.now e;
    }

pub add_points-requires : goal.add_points-requires
add_points-requires t c =
    let v = to_z w64 c.loop-value.value-bits in
    let low = c.args.low.now in
    let high = c.args.high.now in
    let a = entry_most 4095 low 0 c.requires.low in
    let b = entry_most 4095 high 0 c.requires.high in
    let above = c.loop-value.invariant.above in
    let top : FitsSigned w64 (get_or high 0 (pos 0)) = fits_signed_from_abs w64 (get_or high 0 (pos 0)) (omega (arith, ints, b)) in
    let g : FitsSigned w64 (get_or high 0 (pos 0) +ℤ pos 1) = fits_signed_from_abs w64 (get_or high 0 (pos 0) +ℤ pos 1) (omega (arith, ints, b)) in
    let h = at_most_end v (get_or high 0 (pos 0)) (simp to_z-of_z at c.loop-value-test.true) in
    let some : 0 < length low = search rules in
    let e = c.as_slice.ensures.value ∙ c.extended-next.ensures in
    let n = ap length e ∙ length-append c.args.fixed.now (v ∷ []) in
    let small = subst (AtMost 4095) (sym e) (All-push (λ (x : ℤ). unsigned_abs x ≤ 4095) c.args.fixed.now v c.requires.fixed (omega (arith, ints, a, b, above, h))) in
    let cut = ap length (later_is low) ∙ length-drop 1 low in
    let cut' = ap length (later_is high) ∙ length-drop 1 high in
    (search rules, (omega (arith, n, cut, some, c.requires.size), (c.requires.few, (omega (arith, cut, cut', c.requires.same), (small, (All-take (λ (x : ℤ). unsigned_abs x ≤ 4095) _ _ (All-drop (λ (x : ℤ). unsigned_abs x ≤ 4095) 1 low c.requires.low), All-take (λ (x : ℤ). unsigned_abs x ≤ 4095) _ _ (All-drop (λ (x : ℤ). unsigned_abs x ≤ 4095) 1 high c.requires.high)))))))

pub loop-value-preserved : goal.loop-value-preserved
loop-value-preserved t c =
    let v = to_z w64 c.loop-value.value-bits in
    let set = c.args.set.now in
    let fixed = c.args.fixed.now in
    let low = c.args.low.now in
    let high = c.args.high.now in
    let a = entry_most 4095 low 0 c.requires.low in
    let b = entry_most 4095 high 0 c.requires.high in
    let above = c.loop-value.invariant.above in
    let top : FitsSigned w64 (get_or high 0 (pos 0)) = fits_signed_from_abs w64 (get_or high 0 (pos 0)) (omega (arith, ints, b)) in
    let g : FitsSigned w64 (get_or high 0 (pos 0) +ℤ pos 1) = fits_signed_from_abs w64 (get_or high 0 (pos 0) +ℤ pos 1) (omega (arith, ints, b)) in
    let h = at_most_end v (get_or high 0 (pos 0)) (simp to_z-of_z at c.loop-value-test.true) in
    let i : FitsSigned w64 (v +ℤ pos 1) = fits_signed_from_abs w64 (v +ℤ pos 1) (omega (arith, ints, a, b, above, h)) in
    let some : 0 < length low = search rules in
    let e = c.as_slice.ensures.value ∙ c.extended-next.ensures in
    let next : to_z w64 (of_z w64 (v +ℤ pos 1)) ≡ v +ℤ pos 1 = simp to_z-of_z in
    let more = subst (λ (xs : Point). HasListed set xs (later low) (later high) c.loop-value.points c.add_points.new.points) e c.in_ok-add_points.ensures in
    record {
      above = omega (arith, ints, above, next);
      added = simp to_z-of_z (added_next set fixed low high v c.args.points.now c.loop-value.points c.add_points.new.points some c.requires.same above h c.loop-value.invariant.added more);
    }

pub returns : goal.returns
returns t c =
    let v = to_z w64 c.loop-value.value-bits in
    let high = c.args.high.now in
    let b = entry_most 4095 high 0 c.requires.high in
    let top : FitsSigned w64 (get_or high 0 (pos 0)) = fits_signed_from_abs w64 (get_or high 0 (pos 0)) (omega (arith, ints, b)) in
    let g : FitsSigned w64 (get_or high 0 (pos 0) +ℤ pos 1) = fits_signed_from_abs w64 (get_or high 0 (pos 0) +ℤ pos 1) (omega (arith, ints, b)) in
    let some : 0 < length c.args.low.now = search rules in
    let h = past_end v (get_or high 0 (pos 0)) (simp to_z-of_z at c.loop-value-test.false) in
    added_through c.args.set.now c.args.fixed.now c.args.low.now high v c.args.points.now c.loop-value.points some h c.loop-value.invariant.added

pub overflow_add-value-end : goal.overflow_add-value-end
overflow_add-value-end t c = grind (arith, common_steps)
