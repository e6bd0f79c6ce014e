-- Windows and marks, one mark after another.
use Rattle.std.proofs.Common.{◌≡◌, ℕ, zero, suc, ◌+◌, ◌<◌, ◌≤◌, ◌↔◌, inl, inr, List, [], ◌∷◌, ◌++◌, length, drop, refl, sym, ap, subst, ◌∙◌, arith, Bool, true, false, IsTrue, if◌then◌else◌, Option, Some, None, append_assoc, length-append, get_or}
use Rattle.std.specs.Prelude.{slice_get}
use Rattle.av_base.proofs.Lists.{get_cases, some_is, each_by_place, there_is, next_item, nothing_left}
use Rattle.av_space.specs.declared.layout.Slot.{Slot}
use Rattle.av_space.proofs.Elements.{in_range}
use Rattle.av_kinds.specs.declared.program.Window.{Window}
use Rattle.av_build.specs.declared.windows.CounterMark.{CounterMark}
use Rattle.av_build.specs.inner.Windows.{extended, closed, windows_from}
use Rattle.av_build.specs.inner.Orders.{IsInOrder, IsAt, AreMarks}
use Rattle.av_build.proofs.WindowLemmas.{AreRising}

-- ---- windows

closed_first : (begun : Option Window) (rest : List Window) → closed begun [] ++ rest ≡ closed begun rest
closed_first None rest = refl
closed_first (Some i) rest = refl

pub more_begun : (all windows : List Window) (begun : Option Window) (marks : List CounterMark) (n : ℕ) (m : CounterMark) → n < length marks → m ≡ get_or marks n m → m.holds ≡ true
    → windows ++ windows_from begun (drop n marks) ≡ all → windows ++ windows_from (Some (extended begun m.number)) (drop (n + 1) marks) ≡ all
more_begun all windows begun marks n m low is holds before =
    let rest = drop (n + 1) marks in
    ap (λ (b : Bool). windows ++ (if b then windows_from (Some (extended begun m.number)) rest else closed begun (windows_from None rest))) (sym holds)
    ∙ ap (λ (l : List CounterMark). windows ++ windows_from begun l) (sym (next_item marks n m low is)) ∙ before

pub one_closed : (all windows new : List Window) (begun : Option Window) (marks : List CounterMark) (n : ℕ) (m : CounterMark) → n < length marks → m ≡ get_or marks n m → m.holds ≡ false → new ≡ windows ++ closed begun []
    → windows ++ windows_from begun (drop n marks) ≡ all → new ++ windows_from None (drop (n + 1) marks) ≡ all
one_closed all windows new begun marks n m low is holds put before =
    let rest = drop (n + 1) marks in
    ap (λ (l : List Window). l ++ windows_from None rest) put ∙ append_assoc windows (closed begun []) (windows_from None rest)
    ∙ ap (λ (l : List Window). windows ++ l) (closed_first begun (windows_from None rest))
    ∙ ap (λ (b : Bool). windows ++ (if b then windows_from (Some (extended begun m.number)) rest else closed begun (windows_from None rest))) (sym holds)
    ∙ ap (λ (l : List CounterMark). windows ++ windows_from begun l) (sym (next_item marks n m low is)) ∙ before

pub last_closed : (all windows new : List Window) (begun : Option Window) (marks : List CounterMark) (n : ℕ) → length marks ≤ n → new ≡ windows ++ closed begun [] → windows ++ windows_from begun (drop n marks) ≡ all → new ≡ all
last_closed all windows new begun marks n end put before = put ∙ ap (λ (l : List CounterMark). windows ++ windows_from begun l) (sym (nothing_left marks n end)) ∙ before

-- ---- marks

module _ (count : ℕ → ℕ) (slots : List Slot) (order : List ℕ) (P : Slot → Type 0) where
  pub no_marks : AreMarks count slots order P 0 []
  no_marks = record { one_each = refl; each = λ i slot m at is. absurd cc }

  one_slot : (n : ℕ) (s t : Slot) → IsAt slots order n s → IsAt slots order n t → s ≡ t
  one_slot n s t at other = some_is s t (sym at.is_slot ∙ ap (λ (k : ℕ). slice_get slots k) (some_is at.place other.place (sym at.is_place ∙ other.is_place)) ∙ other.is_slot)

  pub one_mark : (n : ℕ) (marks all : List CounterMark) → AreMarks count slots order P n marks → (slot : Slot) → IsAt slots order n slot → (m : CounterMark) → m.number ≡ count slot.cycle → (IsTrue m.holds ↔ P slot) → all ≡ marks ++ m ∷ []
      → AreMarks count slots order P (n + 1) all
  one_mark n marks all h slot at m number holds put = subst (AreMarks count slots order P (n + 1)) (sym put) (record {
    one_each = (let size = length-append marks (m ∷ []) in let e = h.one_each in omega (arith, size, e));
    each = λ i s u is_at is. (elim (get_cases marks (m ∷ []) i u is) [
      | inl l ↦ h.each i s u is_at l
      | inr b ↦ last b.0 i s u is_at b.1 b.2
    ]);
  })
    where
      last : (j i : ℕ) (s : Slot) (u : CounterMark) → IsAt slots order i s → i ≡ length marks + j → slice_get (m ∷ []) j ≡ Some u → (u.number ≡ count s.cycle) × (IsTrue u.holds ↔ P s)
      last zero i s u is_at e f =
          let many = h.one_each in
          let place : i ≡ n = omega (arith, e, many) in
          let same : slot ≡ s = one_slot n slot s at (subst (λ (k : ℕ). IsAt slots order k s) place is_at) in
          subst (λ (x : CounterMark). (x.number ≡ count s.cycle) × (IsTrue x.holds ↔ P s)) (some_is m u f) (subst (λ (x : Slot). (m.number ≡ count x.cycle) × (IsTrue m.holds ↔ P x)) same (number, holds))
      last (suc j) i s u is_at e f = absurd cc

  -- ---- all marks

  module _ (in_order : IsInOrder count slots order) (marks : List CounterMark) (h : AreMarks count slots order P (length order) marks) where
    -- the computation of a mark
    pub slot_of : (i : ℕ) (m : CounterMark) → slice_get marks i ≡ Some m → (slot : Slot) × IsAt slots order i slot
    slot_of i m is =
        let size = h.one_each in
        let low : i < length order = (let r = in_range marks i m is in omega (arith, r, size)) in
        let place = there_is order i low in
        let slot = there_is slots place.0 (in_order.within i place.0 place.1) in
        (slot.0, record { place = place.0; is_place = place.1; is_slot = slot.1 })

    pub rising : AreRising marks
    rising = from_places marks (λ i j m u lt is_m is_u. (
        let s = slot_of i m is_m in
        let t = slot_of j u is_u in
        let l = in_order.rises i j s.1.place t.1.place s.0 t.0 lt s.1.is_place t.1.is_place s.1.is_slot t.1.is_slot in
        let e = (h.each i s.0 m s.1 is_m).0 in
        let f = (h.each j t.0 u t.1 is_u).0 in
        omega (arith, l, e, f)))
      where
        from_places : (marks : List CounterMark) → ((i j : ℕ) (m u : CounterMark) → i < j → slice_get marks i ≡ Some m → slice_get marks j ≡ Some u → m.number < u.number) → AreRising marks
        from_places [] up = tt
        from_places (m ∷ marks) up = (each_by_place (λ (u : CounterMark). m.number < u.number) marks (λ k u is. up 0 (suc k) m u (omega arith) refl is), from_places marks (λ i j x y lt is_x is_y. up (suc i) (suc j) x y (omega (arith, lt)) is_x is_y))

    -- the mark of a computation
    pub mark_of : (k : ℕ) (slot : Slot) → slice_get slots k ≡ Some slot → (i : ℕ) × (m : CounterMark) × (slice_get marks i ≡ Some m) × (m.number ≡ count slot.cycle) × (IsTrue m.holds ↔ P slot)
    mark_of k slot is =
        let i = in_order.all k (in_range slots k slot is) in
        let size = h.one_each in
        let m = there_is marks i.0 (let r = in_range order i.0 k i.1 in omega (arith, r, size)) in
        let said = h.each i.0 slot m.0 (record { place = k; is_place = i.1; is_slot = is }) m.1 in
        (i.0, m.0, m.1, said.0, said.1)
