-- The first and the last of computations by cycle.
use Rattle.std.proofs.Common.{◌≡◌, ℕ, ◌+◌, ◌<◌, ◌≤◌, inl, inr, Some, List, length, sym, ap, ◌∙◌, arith}
use Rattle.std.specs.Prelude.{slice_get, AllPairs}
use Rattle.std.proofs.lemmas.Bool.{cases_lt}
use Rattle.av_space.specs.declared.layout.Slot.{Slot}
use Rattle.av_space.specs.Spots.{AreEnds}
use Rattle.av_space.proofs.ByPlace.{pair_at, all_by_place}
use Rattle.av_space.proofs.Elements.{in_range}
use Rattle.av_base.proofs.Among.{among_at}
use Rattle.av_base.proofs.Lists.{some_is}

pub are_ends : (slots : List Slot) → AllPairs (λ (t u : Slot). t.cycle < u.cycle) slots → (x y : Slot) (last : ℕ) → slice_get slots 0 ≡ Some x → slice_get slots last ≡ Some y → length slots ≤ last + 1 → AreEnds slots (record { first = x.cycle; last = y.cycle })
are_ends slots order x y last is_x is_y whole = record {
  first = (x.point, among_at slots 0 x is_x);
  last = (y.point, among_at slots last y is_y);
  between = all_by_place (λ (t : Slot). (x.cycle ≤ t.cycle) × (t.cycle ≤ y.cycle)) slots (λ k t is. (low k t is, high k t is));
}
  where
    low : (k : ℕ) (t : Slot) → slice_get slots k ≡ Some t → x.cycle ≤ t.cycle
    low k t is = elim (cases_lt 0 k) [
      | inl lt ↦ (let h = pair_at (λ (t u : Slot). t.cycle < u.cycle) slots order 0 k x t is_x is lt in omega (arith, h))
      | inr ge ↦ (let e : k ≡ 0 = omega (arith, ge) in let same = some_is x t (sym is_x ∙ ap (λ (i : ℕ). slice_get slots i) (sym e) ∙ is) in let f = ap (λ (u : Slot). u.cycle) same in omega (arith, f))
    ]

    high : (k : ℕ) (t : Slot) → slice_get slots k ≡ Some t → t.cycle ≤ y.cycle
    high k t is = elim (cases_lt k last) [
      | inl lt ↦ (let h = pair_at (λ (t u : Slot). t.cycle < u.cycle) slots order k last t y is is_y lt in omega (arith, h))
      | inr ge ↦ (let l = in_range slots k t is in let e : k ≡ last = omega (arith, ge, l, whole) in let same = some_is y t (sym is_y ∙ ap (λ (i : ℕ). slice_get slots i) (sym e) ∙ is) in let f = ap (λ (u : Slot). u.cycle) same in omega (arith, f))
    ]
