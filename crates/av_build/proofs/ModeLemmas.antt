-- The windows of marks are active at the numbers of just those computations that are marked.
use Rattle.std.proofs.Common.{◌≡◌, ℕ, zero, suc, ◌≤◌, ◌↔◌, List, [], ◌∷◌, length, refl, sym, ap, subst, ◌∙◌, arith, true, Some}
use Rattle.std.specs.Prelude.{slice_get}
use Rattle.std.specs.List.{list_any}
use Rattle.av_base.proofs.Lists.{some_is, each_by_place}
use Rattle.av_tree.specs.Points.{Point}
use Rattle.av_space.specs.declared.layout.Slot.{Slot}
use Rattle.av_kinds.specs.Programs.{has_number, Work}
use Rattle.av_history.specs.Performing.{Array, ComputesOn}
use Rattle.av_build.specs.declared.windows.CounterMark.{CounterMark}
use Rattle.av_build.specs.inner.Windows.{windows_by}
use Rattle.av_build.specs.inner.Orders.{IsInOrder, AreMarks}
use Rattle.av_build.specs.inner.Programmed.{IsModeFor}
use Rattle.av_build.proofs.WindowLemmas.{AreRising, above_at, holds_there, there_holds, ends_are}
use Rattle.av_build.proofs.WindowSteps.{slot_of, rising, mark_of}

-- ---- one number has one mark

pub same_place : (marks : List CounterMark) → AreRising marks → (i j : ℕ) (t u : CounterMark) → slice_get marks i ≡ Some t → slice_get marks j ≡ Some u → t.number ≡ u.number → i ≡ j
same_place [] up i j t u is_t is_u e = absurd cc
same_place (m ∷ marks) up zero zero t u is_t is_u e = refl
same_place (m ∷ marks) up zero (suc j) t u is_t is_u e = absurd (let l = above_at m.number marks up.0 j u is_u in let f = ap (λ (v : CounterMark). v.number) (some_is m t is_t) in omega (arith, l, f, e))
same_place (m ∷ marks) up (suc i) zero t u is_t is_u e = absurd (let l = above_at m.number marks up.0 i t is_t in let f = ap (λ (v : CounterMark). v.number) (some_is m u is_u) in omega (arith, l, f, e))
same_place (m ∷ marks) up (suc i) (suc j) t u is_t is_u e = ap suc (same_place marks up.1 i j t u is_t is_u e)

-- ---- computations of a cell that stand in the order of the counter's numbers

module _ (count : ℕ → ℕ) (slots : List Slot) (order : List ℕ) (in_order : IsInOrder count slots order) where
  -- a mode is active at a computation just where the computation is marked
  module _ (P : Slot → Type 0) (marks : List CounterMark) (are : AreMarks count slots order P (length order) marks) where
    up : AreRising marks
    up = rising count slots order P in_order marks are

    pub if_active : (k : ℕ) (slot : Slot) → slice_get slots k ≡ Some slot → list_any (has_number (count slot.cycle)) (windows_by marks) ≡ true → P slot
    if_active k slot is e =
        let own = mark_of count slots order P in_order marks are k slot is in
        let found = holds_there marks up (count slot.cycle) e in
        let high = found.1.last own.0 own.1 own.2 (let f = own.3 in omega (arith, f)) in
        let low = found.1.low in
        let number = own.3 in
        let place = same_place marks up own.0 found.1.index own.1 found.0 own.2 found.1.is_there (omega (arith, high, low, number)) in
        let same : own.1 ≡ found.0 = some_is own.1 found.0 (sym own.2 ∙ ap (λ (i : ℕ). slice_get marks i) place ∙ found.1.is_there) in
        own.4.0 (ap (λ (m : CounterMark). m.holds) same ∙ found.2)

    pub active_if : (k : ℕ) (slot : Slot) → slice_get slots k ≡ Some slot → P slot → list_any (has_number (count slot.cycle)) (windows_by marks) ≡ true
    active_if k slot is holds =
        let own = mark_of count slots order P in_order marks are k slot is in
        subst (λ (n : ℕ). list_any (has_number n) (windows_by marks) ≡ true) own.3 (there_holds marks up own.0 own.1 own.2 (own.4.1 holds))

    -- at a number at which it is active, the last computation up to there is marked
    pub record IsLatestSlot (x : ℕ) : Type 0 where
      pub index : ℕ
      pub slot : Slot
      pub is_slot : slice_get slots index ≡ Some slot
      pub low : count slot.cycle ≤ x
      pub last : (k : ℕ) (other : Slot) → slice_get slots k ≡ Some other → count other.cycle ≤ x → count other.cycle ≤ count slot.cycle
      pub marked : P slot

    pub latest : (x : ℕ) → list_any (has_number x) (windows_by marks) ≡ true → IsLatestSlot x
    latest x e =
        let found = holds_there marks up x e in
        let own = slot_of count slots order P in_order marks are found.1.index found.0 found.1.is_there in
        let said = are.each found.1.index own.0 found.0 own.1 found.1.is_there in
        record {
          index = own.1.place;
          slot = own.0;
          is_slot = own.1.is_slot;
          low = (let l = found.1.low in let f = said.0 in omega (arith, l, f));
          last = λ k other is le.
              let m = mark_of count slots order P in_order marks are k other is in
              let f = m.3 in
              let g = said.0 in
              let r = found.1.last m.0 m.1 m.2 (omega (arith, le, f)) in
              omega (arith, r, f, g);
          marked = said.1.0 found.2;
        }

-- ---- the mode

module _ (a : Array) (count : ℕ → ℕ) (p : ℕ) (slots : List Slot) (order : List ℕ) (in_order : IsInOrder count slots order) (R Q : ℕ → Point → Type 0) (P : Slot → Type 0)
    (each : (k : ℕ) (slot : Slot) → slice_get slots k ≡ Some slot → (n : ℕ) × ComputesOn a p slot.cycle n slot.point × R n slot.point)
    (all : (c n : ℕ) (z : Point) → ComputesOn a p c n z → R n z → (k : ℕ) × (slice_get slots k ≡ Some (record { cycle = c; point = z })))
    (same : (c n : ℕ) (z : Point) → ComputesOn a p c n z → R n z → P (record { cycle = c; point = z }) ↔ Q n z) where
  -- the number of a computation
  abbrev Ending : ℕ → Type 0
  Ending x = (c : ℕ) × (n : ℕ) × (z : Point) × ComputesOn a p c n z × (x ≡ count c)

  pub mode_for : (marks : List CounterMark) → AreMarks count slots order P (length order) marks → (work : Work) → IsModeFor a count p R Q (record { windows = windows_by marks; work = work })
  mode_for marks are work = record {
    numbers = λ c n z computes read.
        let k = all c n z computes read in
        let slot : Slot = record { cycle = c; point = z } in
        let told = same c n z computes read in
        ((λ e. told.0 (if_active count slots order in_order P marks are k.0 slot k.1 e)), (λ q. active_if count slots order in_order P marks are k.0 slot k.1 (told.1 q)));
    latest = λ x e.
        let l = latest count slots order in_order P marks are x e in
        let own = each l.index l.slot l.is_slot in
        record {
          cycle = l.slot.cycle;
          node = own.0;
          point = l.slot.point;
          computes = own.1;
          read = own.2;
          holds = (same l.slot.cycle own.0 l.slot.point own.1 own.2).0 l.marked;
          low = l.low;
          last = λ c n z computes read le. let k = all c n z computes read in l.last k.0 (record { cycle = c; point = z }) k.1 le;
        };
    ends = ends_are Ending marks (each_by_place (λ (m : CounterMark). Ending m.number) marks (λ i m is. ending i m is));
  }
    where
      ending : (i : ℕ) (m : CounterMark) → slice_get marks i ≡ Some m → Ending m.number
      ending i m is =
          let own = slot_of count slots order P in_order marks are i m is in
          let computes = each own.1.place own.0 own.1.is_slot in
          (own.0.cycle, computes.0, own.0.point, computes.1, (are.each i own.0 m own.1 is).0)
