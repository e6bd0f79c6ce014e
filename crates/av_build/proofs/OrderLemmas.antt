-- Computations by cycle, turned to where the counter begins anew, are in the order of the counter's numbers.
use Rattle.std.proofs.Common.{◌≡◌, ℕ, zero, suc, ◌+◌, ◌-◌, ◌%◌, ◌<◌, ◌≤◌, ◌⊎◌, inl, inr, List, [], ◌∷◌, ◌++◌, length, refl, sym, ap, ◌∙◌, arith, Some}
use Rattle.std.specs.Prelude.{slice_get, AllPairs}
use Rattle.std.specs.List.{range_with_len}
use Rattle.av_base.proofs.Lists.{get_cases, get_first, some_is, there_is}
use Rattle.av_space.specs.declared.layout.Slot.{Slot}
use Rattle.av_space.proofs.ByPlace.{pair_at}
use Rattle.av_space.proofs.Elements.{in_range}
use Rattle.av_kinds.specs.declared.counter.Counter.{Counter}
use Rattle.av_kinds.specs.declared.counter.Counter.TheVariants.{Cycles, Phases}
use Rattle.av_kinds.specs.Counters.{IsCounter, count_in, number_count}
use Rattle.av_history.proofs.Residues.{two_in_window}
use Rattle.av_build.specs.inner.Orders.{AreWithin, IsStart, IsInOrder}
use Rattle.av_build.proofs.Appended.{get_right}

-- ---- ranges

pub range_more : (a n : ℕ) → range_with_len a (n + 1) ≡ range_with_len a n ++ (a + n) ∷ []
range_more a n = let e : n + 1 ≡ suc n = omega arith in ap (range_with_len a) e ∙ longer a n
  where
    longer : (a n : ℕ) → range_with_len a (suc n) ≡ range_with_len a n ++ (a + n) ∷ []
    longer a zero = let e : a ≡ a + 0 = omega arith in ap (λ (k : ℕ). k ∷ []) e
    longer a (suc n) = let e : a + 1 + n ≡ a + suc n = omega arith in ap (λ (l : List ℕ). a ∷ l) (longer (a + 1) n ∙ ap (λ (k : ℕ). range_with_len (a + 1) n ++ k ∷ []) e)

range_get : (a n i k : ℕ) → slice_get (range_with_len a n) i ≡ Some k → (k ≡ a + i) × (i < n)
range_get a zero i k is = absurd cc
range_get a (suc n) zero k is = (let e = some_is a k is in omega (arith, e), omega arith)
range_get a (suc n) (suc i) k is = let r = range_get (a + 1) n i k is in (let e = r.0 in omega (arith, e), let l = r.1 in omega (arith, l))

range_there : (a n i : ℕ) → i < n → slice_get (range_with_len a n) i ≡ Some (a + i)
range_there a zero i l = absurd (omega (arith, l))
range_there a (suc n) zero l = let e : a ≡ a + 0 = omega arith in ap (λ (k : ℕ). Some k) e
range_there a (suc n) (suc i) l = let e : a + 1 + i ≡ a + suc i = omega arith in range_there (a + 1) n i (omega (arith, l)) ∙ ap (λ (k : ℕ). Some k) e

range_size : (a n : ℕ) → length (range_with_len a n) ≡ n
range_size a zero = refl
range_size a (suc n) = ap suc (range_size (a + 1) n)

-- ---- counters

-- what a counter has is a residue
pub count_is : (counter : Counter) (c : ℕ) → count_in counter c ≡ c % number_count counter
count_is Cycles c = refl
count_is (Phases period) c = refl

pub some_numbers : (counter : Counter) → IsCounter counter → 0 < number_count counter
some_numbers Cycles h = omega arith
some_numbers (Phases period) h = h.0

-- ---- one computation of the order

abbrev turned : ℕ → ℕ → List ℕ
turned n size = range_with_len n (size - n) ++ range_with_len 0 n

-- the place of a computation from the start on, or before it
turned_get : (n size i k : ℕ) → n ≤ size → slice_get (turned n size) i ≡ Some k → ((i < size - n) × (k ≡ n + i)) ⊎ ((size - n ≤ i) × (k + (size - n) ≡ i) × (k < n))
turned_get n size i k le is = elim (get_cases (range_with_len n (size - n)) (range_with_len 0 n) i k is) [
  | inl l ↦ (let r = range_get n (size - n) i k l in inl (r.1, r.0))
  | inr b ↦ (
      let r = range_get 0 n b.0 k b.2 in
      let e = b.1 in
      let f = range_size n (size - n) in
      let g = r.0 in
      let h = r.1 in
      inr (omega (arith, e, f), omega (arith, e, f, g), omega (arith, g, h)))
]

turned_there : (n size k : ℕ) → n ≤ size → k < size → (i : ℕ) × (slice_get (turned n size) i ≡ Some k)
turned_there n size k le lt = elim (cases k n) [
  | inl l ↦ (
      let r = range_there 0 n k l in
      let e : 0 + k ≡ k = omega arith in
      (length (range_with_len n (size - n)) + k, get_right (range_with_len n (size - n)) (range_with_len 0 n) k k (r ∙ ap (λ (j : ℕ). Some j) e)))
  | inr ge ↦ (
      let r = range_there n (size - n) (k - n) (omega (arith, lt, ge)) in
      let e : n + (k - n) ≡ k = omega (arith, ge) in
      (k - n, get_first (range_with_len n (size - n)) (range_with_len 0 n) (k - n) k (r ∙ ap (λ (j : ℕ). Some j) e)))
]
  where
    cases : (a b : ℕ) → (a < b) ⊎ (b ≤ a)
    cases a b = grind arith

-- ---- the order

module _ (m : ℕ) (some : 0 < m) (slots : List Slot) (ascend : AllPairs (λ (t u : Slot). t.cycle < u.cycle) slots) (within : AreWithin m slots) (n : ℕ) (start : IsStart (λ c. c % m) slots n) where
  -- the first computation, where there is one
  before : (k l : ℕ) (s t : Slot) → k < l → slice_get slots k ≡ Some s → slice_get slots l ≡ Some t → s.cycle < t.cycle
  before k l s t lt is_s is_t = pair_at (λ (t u : Slot). t.cycle < u.cycle) slots ascend k l s t is_s is_t lt

  module _ (first : Slot) (is_first : slice_get slots 0 ≡ Some first) where
    from_first : (k : ℕ) (s : Slot) → slice_get slots k ≡ Some s → first.cycle ≤ s.cycle
    from_first zero s is = let e = ap (λ (t : Slot). t.cycle) (some_is first s (sym is_first ∙ is)) in omega (arith, e)
    from_first (suc k) s is = let l = before 0 (suc k) first s (omega arith) is_first is in omega (arith, l)

    -- two in turn
    in_turn : (k l : ℕ) (s t : Slot) → k < l → slice_get slots k ≡ Some s → slice_get slots l ≡ Some t
        → ((first.cycle % m ≤ s.cycle % m) × (s.cycle % m < t.cycle % m)) ⊎ ((t.cycle % m < first.cycle % m) × (first.cycle % m ≤ s.cycle % m)) ⊎ ((s.cycle % m < t.cycle % m) × (t.cycle % m < first.cycle % m))
    in_turn k l s t lt is_s is_t = two_in_window first.cycle s.cycle t.cycle m some (from_first k s is_s) (before k l s t lt is_s is_t) (within 0 l first t is_first is_t)

    -- those from the start on have numbers below the first one's
    late : (k : ℕ) (s : Slot) → n ≤ k → slice_get slots k ≡ Some s → s.cycle % m < first.cycle % m
    late k s le is = elim (equal_or_more n k le) [
      | inl e ↦ start.next first s is_first (ap (λ (j : ℕ). slice_get slots j) e ∙ is)
      | inr lt ↦ (
          let there = there_is slots n (let r = in_range slots k s is in omega (arith, r, lt)) in
          let low = start.next first there.0 is_first there.1 in
          elim (in_turn n k there.0 s lt there.1 is) [
            | inl a ↦ absurd (let b = a.0 in omega (arith, low, b))
            | inr b ↦ elim b [
              | inl a ↦ absurd (let d = a.1 in omega (arith, low, d))
              | inr a ↦ a.1
            ]
          ])
    ]
      where
        equal_or_more : (a b : ℕ) → a ≤ b → (a ≡ b) ⊎ (a < b)
        equal_or_more a b le = grind (arith, le)

    rise_late : (k l : ℕ) (s t : Slot) → n ≤ k → k < l → slice_get slots k ≡ Some s → slice_get slots l ≡ Some t → s.cycle % m < t.cycle % m
    rise_late k l s t le lt is_s is_t =
        let low = late k s le is_s in
        elim (in_turn k l s t lt is_s is_t) [
          | inl a ↦ a.1
          | inr b ↦ elim b [
            | inl a ↦ absurd (let d = a.1 in omega (arith, low, d))
            | inr a ↦ a.0
          ]
        ]

    rise_early : (k l : ℕ) (s t : Slot) → l < n → k < l → slice_get slots k ≡ Some s → slice_get slots l ≡ Some t → s.cycle % m < t.cycle % m
    rise_early k l s t early lt is_s is_t =
        let high = start.before l first t early is_first is_t in
        elim (in_turn k l s t lt is_s is_t) [
          | inl a ↦ a.1
          | inr b ↦ elim b [
            | inl a ↦ absurd (let d = a.0 in omega (arith, high, d))
            | inr a ↦ a.0
          ]
        ]

    rise_over : (k l : ℕ) (s t : Slot) → n ≤ k → l < n → slice_get slots k ≡ Some s → slice_get slots l ≡ Some t → s.cycle % m < t.cycle % m
    rise_over k l s t le early is_s is_t =
        let low = late k s le is_s in
        let high = start.before l first t early is_first is_t in
        omega (arith, low, high)

  rises : (i j k l : ℕ) (s t : Slot) → i < j → slice_get (turned n (length slots)) i ≡ Some k → slice_get (turned n (length slots)) j ≡ Some l → slice_get slots k ≡ Some s → slice_get slots l ≡ Some t → s.cycle % m < t.cycle % m
  rises i j k l s t lt at_i at_j is_s is_t =
      let first = there_is slots 0 (let r = in_range slots k s is_s in omega (arith, r)) in
      elim (turned_get n (length slots) i k start.high at_i) [
        | inl a ↦ elim (turned_get n (length slots) j l start.high at_j) [
          | inl b ↦ (let e = a.1 in let f = b.1 in rise_late first.0 first.1 k l s t (omega (arith, e)) (omega (arith, e, f, lt)) is_s is_t)
          | inr b ↦ (let e = a.1 in rise_over first.0 first.1 k l s t (omega (arith, e)) b.2 is_s is_t)
        ]
        | inr a ↦ elim (turned_get n (length slots) j l start.high at_j) [
          | inl b ↦ absurd (let e = a.0 in let f = b.0 in omega (arith, e, f, lt))
          | inr b ↦ (let e = a.1 in let f = b.1 in rise_early first.0 first.1 k l s t b.2 (omega (arith, e, f, lt)) is_s is_t)
        ]
      ]

  pub turned_order : IsInOrder (λ c. c % m) slots (range_with_len n (length slots - n) ++ range_with_len 0 n)
  turned_order = record {
    within = λ i k at. (elim (turned_get n (length slots) i k start.high at) [
      | inl a ↦ (let l = a.0 in let e = a.1 in omega (arith, l, e))
      | inr b ↦ (let l = b.2 in let h = start.high in omega (arith, l, h))
    ]);
    all = λ k lt. turned_there n (length slots) k start.high lt;
    rises = rises;
  }

-- by what the counter has
pub in_order_by : (counter : Counter) → IsCounter counter → (slots : List Slot) → AllPairs (λ (t u : Slot). t.cycle < u.cycle) slots → AreWithin (number_count counter) slots → (n : ℕ) → IsStart (count_in counter) slots n
    → IsInOrder (count_in counter) slots (range_with_len n (length slots - n) ++ range_with_len 0 n)
in_order_by Cycles h slots ascend within n start = turned_order (number_count Cycles) (some_numbers Cycles h) slots ascend within n start
in_order_by (Phases period) h slots ascend within n start = turned_order period (some_numbers (Phases period) h) slots ascend within n start
