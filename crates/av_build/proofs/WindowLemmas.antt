-- The windows of ascending marks: a mark that holds is in one, and the last mark up to a number of one holds.
use Rattle.std.proofs.Common.{◌≡◌, ℕ, zero, suc, ◌<◌, ◌≤◌, ◌⊎◌, inl, inr, List, [], ◌∷◌, refl, ap, subst, ◌∙◌, arith, Bool, true, false, ◌||◌, if◌then◌else◌, Option, Some, None}
use Rattle.std.specs.Prelude.{slice_get, nat_le}
use Rattle.std.specs.List.{AllByRecursion, list_any}
use Rattle.std.proofs.lemmas.Bool.{cases_lt}
use Rattle.av_base.proofs.Lists.{some_is}
use Rattle.av_base.proofs.Truths.{and_true, both}
use Rattle.av_kinds.specs.declared.program.Window.{Window}
use Rattle.av_kinds.specs.Programs.{has_number}
use Rattle.av_build.specs.declared.windows.CounterMark.{CounterMark}
use Rattle.av_build.specs.inner.Windows.{extended, closed, windows_from, windows_by}

-- ---- tests

pub at_most : (m n : ℕ) → m ≤ n → nat_le m n ≡ true
at_most m n h = grind arith

is_most : (m n : ℕ) → nat_le m n ≡ true → m ≤ n
is_most m n h = grind (arith, h)

in_window : (x : ℕ) (i : Window) → i.first ≤ x → x ≤ i.last → has_number x i ≡ true
in_window x i low high = and_true (nat_le i.first x) (nat_le x i.last) (at_most i.first x low) (at_most x i.last high)

bounds_of : (x : ℕ) (i : Window) → has_number x i ≡ true → (i.first ≤ x) × (x ≤ i.last)
bounds_of x i h = let b = both (nat_le i.first x) (nat_le x i.last) h in (is_most i.first x b.0, is_most x i.last b.1)

any_first : (x : ℕ) (i : Window) (rest : List Window) → has_number x i ≡ true → list_any (has_number x) (i ∷ rest) ≡ true
any_first x i rest e = rw e refl

any_later : (x : ℕ) (i : Window) (rest : List Window) → list_any (has_number x) rest ≡ true → list_any (has_number x) (i ∷ rest) ≡ true
any_later x i rest e = by_test (has_number x i)
  where
    by_test : (b : Bool) → (b || list_any (has_number x) rest) ≡ true
    by_test true = refl
    by_test false = e

any_cases : (x : ℕ) (i : Window) (rest : List Window) → list_any (has_number x) (i ∷ rest) ≡ true → (has_number x i ≡ true) ⊎ (list_any (has_number x) rest ≡ true)
any_cases x i rest e = by_test (has_number x i) refl e
  where
    by_test : (b : Bool) → has_number x i ≡ b → (b || list_any (has_number x) rest) ≡ true → (has_number x i ≡ true) ⊎ (list_any (has_number x) rest ≡ true)
    by_test true f g = inl f
    by_test false f g = inr g

closed_later : (x : ℕ) (begun : Option Window) (rest : List Window) → list_any (has_number x) rest ≡ true → list_any (has_number x) (closed begun rest) ≡ true
closed_later x None rest e = e
closed_later x (Some i) rest e = any_later x i rest e

-- ---- ascending marks

abbrev pub AreAbove : ℕ → List CounterMark → Type 0
AreAbove n marks = AllByRecursion (λ (m : CounterMark). n < m.number) marks

abbrev pub AreRising : List CounterMark → Type 0
AreRising [] = Unit {0}
AreRising (m ∷ marks) = AreAbove m.number marks × AreRising marks

-- a begun window ends before the marks
abbrev pub IsBegun : Option Window → List CounterMark → Type 0
IsBegun None marks = Unit {0}
IsBegun (Some i) marks = (i.first ≤ i.last) × AreAbove i.last marks

extended_begun : (begun : Option Window) (m : CounterMark) (marks : List CounterMark) → IsBegun begun (m ∷ marks) → AreAbove m.number marks → IsBegun (Some (extended begun m.number)) marks
extended_begun None m marks h above = (omega arith, above)
extended_begun (Some i) m marks h above = (omega (arith, h.0, h.1.0), above)

first_low : (begun : Option Window) (m : CounterMark) (marks : List CounterMark) → IsBegun begun (m ∷ marks) → (extended begun m.number).first ≤ m.number
first_low None m marks h = omega arith
first_low (Some i) m marks h = omega (arith, h.0, h.1.0)

last_high : (begun : Option Window) (n : ℕ) → n ≤ (extended begun n).last
last_high None n = omega arith
last_high (Some i) n = omega arith

-- ---- a mark that holds is in a window

-- so is each number of the begun one
begun_there : (marks : List CounterMark) → AreRising marks → (i : Window) (x : ℕ) → IsBegun (Some i) marks → i.first ≤ x → x ≤ i.last → list_any (has_number x) (windows_from (Some i) marks) ≡ true
begun_there [] up i x h low high = any_first x i [] (in_window x i low high)
begun_there (m ∷ marks) up i x h low high = by_test m.holds (begun_there marks up.1 (extended (Some i) m.number) x (extended_begun (Some i) m marks h up.0) low (omega (arith, high, h.1.0)))
  where
    by_test : (b : Bool) → list_any (has_number x) (windows_from (Some (extended (Some i) m.number)) marks) ≡ true
        → list_any (has_number x) (if b then windows_from (Some (extended (Some i) m.number)) marks else closed (Some i) (windows_from None marks)) ≡ true
    by_test true more = more
    by_test false more = any_first x i (windows_from None marks) (in_window x i low high)

mark_there : (marks : List CounterMark) → AreRising marks → (begun : Option Window) → IsBegun begun marks → (k : ℕ) (t : CounterMark) → slice_get marks k ≡ Some t → t.holds ≡ true → list_any (has_number t.number) (windows_from begun marks) ≡ true
mark_there [] up begun h k t is holds = absurd cc
mark_there (m ∷ marks) up begun h zero t is holds =
    let e = some_is m t is in
    let own : m.holds ≡ true = ap (λ (u : CounterMark). u.holds) e ∙ holds in
    let there = begun_there marks up.1 (extended begun m.number) m.number (extended_begun begun m marks h up.0) (first_low begun m marks h) (last_high begun m.number) in
    subst (λ (n : ℕ). list_any (has_number n) (windows_from begun (m ∷ marks)) ≡ true) (ap (λ (u : CounterMark). u.number) e) (chosen m.holds own there)
  where
    chosen : (b : Bool) → b ≡ true → list_any (has_number m.number) (windows_from (Some (extended begun m.number)) marks) ≡ true
        → list_any (has_number m.number) (if b then windows_from (Some (extended begun m.number)) marks else closed begun (windows_from None marks)) ≡ true
    chosen true f there = there
    chosen false f there = absurd cc
mark_there (m ∷ marks) up begun h (suc k) t is holds =
    by_test m.holds (mark_there marks up.1 (Some (extended begun m.number)) (extended_begun begun m marks h up.0) k t is holds) (mark_there marks up.1 None tt k t is holds)
  where
    by_test : (b : Bool) → list_any (has_number t.number) (windows_from (Some (extended begun m.number)) marks) ≡ true → list_any (has_number t.number) (windows_from None marks) ≡ true
        → list_any (has_number t.number) (if b then windows_from (Some (extended begun m.number)) marks else closed begun (windows_from None marks)) ≡ true
    by_test true here later = here
    by_test false here later = closed_later t.number begun (windows_from None marks) later

-- ---- the last mark up to a number of a window holds

pub record IsLastUpTo (marks : List CounterMark) (x : ℕ) (t : CounterMark) : Type 0 where
  pub index : ℕ
  pub is_there : slice_get marks index ≡ Some t
  pub low : t.number ≤ x
  pub last : (j : ℕ) (u : CounterMark) → slice_get marks j ≡ Some u → u.number ≤ x → u.number ≤ t.number

-- one that holds
abbrev pub Holds : List CounterMark → ℕ → Type 0
Holds marks x = (t : CounterMark) × IsLastUpTo marks x t × (t.holds ≡ true)

-- the number is in the begun window, or before the marks
abbrev InBegun : Option Window → ℕ → List CounterMark → Type 0
InBegun None x marks = ⊥
InBegun (Some i) x marks = (i.first ≤ x) × AreAbove x marks

pub above_at : (n : ℕ) (marks : List CounterMark) → AreAbove n marks → (k : ℕ) (t : CounterMark) → slice_get marks k ≡ Some t → n < t.number
above_at n [] h k t is = absurd cc
above_at n (m ∷ marks) h zero t is = subst (λ (u : CounterMark). n < u.number) (some_is m t is) h.0
above_at n (m ∷ marks) h (suc k) t is = above_at n marks h.1 k t is

above_less : (m n : ℕ) → m ≤ n → (marks : List CounterMark) → AreAbove n marks → AreAbove m marks
above_less m n le [] h = tt
above_less m n le (t ∷ marks) h = (omega (arith, le, h.0), above_less m n le marks h.1)

later_holds : (m : CounterMark) (marks : List CounterMark) → AreAbove m.number marks → (x : ℕ) → Holds marks x → Holds (m ∷ marks) x
later_holds m marks above x (t, l, holds) = (t, record { index = suc l.index; is_there = l.is_there; low = l.low; last = λ j u is low. last j u is low }, holds)
  where
    last : (j : ℕ) (u : CounterMark) → slice_get (m ∷ marks) j ≡ Some u → u.number ≤ x → u.number ≤ t.number
    last zero u is low = let e = ap (λ (v : CounterMark). v.number) (some_is m u is) in omega (arith, e, above_at m.number marks above l.index t l.is_there)
    last (suc j) u is low = l.last j u is low

first_holds : (m : CounterMark) (marks : List CounterMark) (x : ℕ) → AreAbove x marks → m.number ≤ x → m.holds ≡ true → Holds (m ∷ marks) x
first_holds m marks x above low holds = (m, record { index = 0; is_there = refl; low = low; last = λ j u is le. last j u is le }, holds)
  where
    last : (j : ℕ) (u : CounterMark) → slice_get (m ∷ marks) j ≡ Some u → u.number ≤ x → u.number ≤ m.number
    last zero u is le = let e = ap (λ (v : CounterMark). v.number) (some_is m u is) in omega (arith, e)
    last (suc j) u is le = absurd (let l = above_at x marks above j u is in omega (arith, l, le))

from_begun : (marks : List CounterMark) → AreRising marks → (begun : Option Window) → IsBegun begun marks → (x : ℕ) → list_any (has_number x) (windows_from begun marks) ≡ true → InBegun begun x marks ⊎ Holds marks x
from_begun [] up None h x e = absurd cc
from_begun [] up (Some i) h x e = elim (any_cases x i [] e) [
  | inl here ↦ inl ((bounds_of x i here).0, tt)
  | inr later ↦ absurd cc
]
from_begun (m ∷ marks) up begun h x e = by_test m.holds refl e (from_begun marks up.1 (Some (extended begun m.number)) (extended_begun begun m marks h up.0) x) (from_begun marks up.1 None tt x)
  where
    none : InBegun None x marks ⊎ Holds marks x → Holds marks x
    none (inl never) = absurd never
    none (inr l) = l

    first_above : (o : Option Window) → (extended o m.number).first ≤ x → x < m.number → AreAbove x marks → InBegun o x (m ∷ marks)
    first_above None low lt above = absurd (omega (arith, low, lt))
    first_above (Some i) low lt above = (low, (lt, above))

    of_closed : (o : Option Window) → IsBegun o (m ∷ marks) → list_any (has_number x) (closed o (windows_from None marks)) ≡ true → (list_any (has_number x) (windows_from None marks) ≡ true → InBegun None x marks ⊎ Holds marks x) → InBegun o x (m ∷ marks) ⊎ Holds (m ∷ marks) x
    of_closed None k f rest = inr (later_holds m marks up.0 x (none (rest f)))
    of_closed (Some i) k f rest = elim (any_cases x i (windows_from None marks) f) [
      | inl here ↦ (let b = bounds_of x i here in inl (b.0, above_less x i.last b.1 (m ∷ marks) k.1))
      | inr later ↦ inr (later_holds m marks up.0 x (none (rest later)))
    ]

    by_test : (b : Bool) → m.holds ≡ b → list_any (has_number x) (if b then windows_from (Some (extended begun m.number)) marks else closed begun (windows_from None marks)) ≡ true
        → (list_any (has_number x) (windows_from (Some (extended begun m.number)) marks) ≡ true → InBegun (Some (extended begun m.number)) x marks ⊎ Holds marks x)
        → (list_any (has_number x) (windows_from None marks) ≡ true → InBegun None x marks ⊎ Holds marks x) → InBegun begun x (m ∷ marks) ⊎ Holds (m ∷ marks) x
    by_test true holds f here rest = elim (here f) [
      | inl o ↦ elim (cases_lt x m.number) [
        | inl lt ↦ inl (first_above begun o.0 lt o.1)
        | inr le ↦ inr (first_holds m marks x o.1 le holds)
      ]
      | inr l ↦ inr (later_holds m marks up.0 x l)
    ]
    by_test false holds f here rest = of_closed begun h f rest

-- ---- the whole

pub holds_there : (marks : List CounterMark) → AreRising marks → (x : ℕ) → list_any (has_number x) (windows_by marks) ≡ true → Holds marks x
holds_there marks up x e = elim (from_begun marks up None tt x e) [
  | inl never ↦ absurd never
  | inr l ↦ l
]

pub there_holds : (marks : List CounterMark) → AreRising marks → (k : ℕ) (t : CounterMark) → slice_get marks k ≡ Some t → t.holds ≡ true → list_any (has_number t.number) (windows_by marks) ≡ true
there_holds marks up k t is holds = mark_there marks up None tt k t is holds

-- windows begin and end with numbers of marks
abbrev pub HaveEnds : (ℕ → Type 0) → List Window → Type 0
HaveEnds P windows = AllByRecursion (λ (i : Window). P i.first × P i.last) windows

abbrev EndsWith : (ℕ → Type 0) → Option Window → Type 0
EndsWith P None = Unit {0}
EndsWith P (Some i) = P i.first × P i.last

ends_from : (P : ℕ → Type 0) (marks : List CounterMark) → AllByRecursion (λ (m : CounterMark). P m.number) marks → (begun : Option Window) → EndsWith P begun → HaveEnds P (windows_from begun marks)
ends_from P [] all None h = tt
ends_from P [] all (Some i) h = (h, tt)
ends_from P (m ∷ marks) all begun h = by_test m.holds (ends_from P marks all.1 (Some (extended begun m.number)) (longer begun h)) (ends_from P marks all.1 None tt)
  where
    longer : (o : Option Window) → EndsWith P o → EndsWith P (Some (extended o m.number))
    longer None k = (all.0, all.0)
    longer (Some i) k = (k.0, all.0)

    shut : (o : Option Window) → EndsWith P o → HaveEnds P (windows_from None marks) → HaveEnds P (closed o (windows_from None marks))
    shut None k rest = rest
    shut (Some i) k rest = (k, rest)

    by_test : (b : Bool) → HaveEnds P (windows_from (Some (extended begun m.number)) marks) → HaveEnds P (windows_from None marks)
        → HaveEnds P (if b then windows_from (Some (extended begun m.number)) marks else closed begun (windows_from None marks))
    by_test true here rest = here
    by_test false here rest = shut begun h rest

pub ends_are : (P : ℕ → Type 0) (marks : List CounterMark) → AllByRecursion (λ (m : CounterMark). P m.number) marks → HaveEnds P (windows_by marks)
ends_are P marks all = ends_from P marks all None tt
