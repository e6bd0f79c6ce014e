-- The names of an array are distinct.
use Rattle.std.proofs.Common.{◌≡◌, ◌≢◌, ℕ, zero, suc, ◌+◌, ◌^◌, ◌<◌, ◌≤◌, List, [], ◌∷◌, ◌++◌, length, map, refl, sym, arith, ◌∙◌, ap, true, if◌then◌else◌, inl, inr, rules}
use Rattle.std.specs.Prelude.{Contains, decimal, sum}
use Rattle.std.specs.List.{AllByRecursion, range_with_len}
use Rattle.std.specs.Char.{is_ascii_digit}
use Rattle.std.specs.Str.{all_ascii_digits}
use Rattle.std.specs.Str.Parse.{digits_value}
use Rattle.std.proofs.lemmas.Fmt.{decimal_is_IsNumeral_wide}
use Rattle.std.proofs.lemmas.Str.Parse.{IsNumeralModel, numerals_by_fold, tells_all_ascii_digits}
use Rattle.std.proofs.lemmas.List.FromFn.{get_or-map-range_with_len, length-map-range_with_len}
use Rattle.std.proofs.lemmas.List.Elements.{All-contains, All-from_recursion, Contains-append_cases}
use Rattle.av_base.specs.Tokens.{number_of, number_from}
use Rattle.av_net.specs.Names.{AreDistinct}
use Rattle.av_net.proofs.Distinct.{append_distinct}
use Rattle.av_base.proofs.Truths.{both}

-- ---- digits

own : IsNumeralModel (λ ds. all_ascii_digits ds ≡ true) number_of
own = numerals_by_fold _ tells_all_ascii_digits number_from (search rules)

-- the digits that a text begins with, and what follows
abbrev pub front : List ℕ → List ℕ
front [] = []
front (x ∷ xs) = if is_ascii_digit x then x ∷ front xs else []

abbrev pub back : List ℕ → List ℕ
back [] = []
back (x ∷ xs) = if is_ascii_digit x then back xs else x ∷ xs

front_of : (ds more : List ℕ) → all_ascii_digits ds ≡ true → front more ≡ [] → front (ds ++ more) ≡ ds
front_of [] more d e = e
front_of (x ∷ ds) more d e = let b = both (is_ascii_digit x) (all_ascii_digits ds) d in rw (b.0, front_of ds more b.1 e) refl

back_of : (ds more : List ℕ) → all_ascii_digits ds ≡ true → back more ≡ more → back (ds ++ more) ≡ more
back_of [] more d e = e
back_of (x ∷ ds) more d e = let b = both (is_ascii_digit x) (all_ascii_digits ds) d in rw b.0 (back_of ds more b.1 e)

pub digits_of : (n : ℕ) → n < 10 ^ 64 → all_ascii_digits (decimal n) ≡ true
digits_of n small = own.from (decimal n) (decimal_is_IsNumeral_wide n small).0.1

-- a number of at most 64 digits has a first digit, and no other number has the same digits
pub decimal_some : (n : ℕ) → n < 10 ^ 64 → 0 < length (decimal n)
decimal_some n small = (decimal_is_IsNumeral_wide n small).0.0

pub decimal_once : (m n : ℕ) → m < 10 ^ 64 → n < 10 ^ 64 → decimal m ≡ decimal n → m ≡ n
decimal_once m n p q e = sym (decimal_is_IsNumeral_wide m p).1 ∙ ap (digits_value 10) e ∙ (decimal_is_IsNumeral_wide n q).1

abbrev tail : List ℕ → List ℕ
tail [] = []
tail (x ∷ xs) = xs

-- the number after the first letter, and what follows it
abbrev pub owner : List ℕ → List ℕ
owner name = front (tail name)

abbrev pub after : List ℕ → List ℕ
after name = back (tail name)

pub owner_numbered : (a : ℕ) (p : ℕ) (more : List ℕ) → p < 10 ^ 64 → front more ≡ [] → owner (a ∷ (decimal p ++ more)) ≡ decimal p
owner_numbered a p more small e = front_of (decimal p) more (digits_of p small) e

pub after_numbered : (a : ℕ) (p : ℕ) (more : List ℕ) → p < 10 ^ 64 → back more ≡ more → after (a ∷ (decimal p ++ more)) ≡ more
after_numbered a p more small e = back_of (decimal p) more (digits_of p small) e

-- ---- sorts of names: the letter before a number, or a number of its own

abbrev pub sort : List ℕ → ℕ
sort [] = 0
sort (a ∷ []) = 0
sort (a ∷ b ∷ more) = if is_ascii_digit b then a else 1000 + sum (a ∷ b ∷ more)

sort_by : (a : ℕ) (ds more : List ℕ) → all_ascii_digits ds ≡ true → 0 < length ds → sort (a ∷ (ds ++ more)) ≡ a
sort_by a [] more d lt = absurd (omega arith)
sort_by a (x ∷ ds) more d lt = let b = both (is_ascii_digit x) (all_ascii_digits ds) d in rw b.0 refl

pub sort_numbered : (a p : ℕ) (more : List ℕ) → p < 10 ^ 64 → sort (a ∷ (decimal p ++ more)) ≡ a
sort_numbered a p more small = sort_by a (decimal p) more (digits_of p small) (decimal_some p small)

-- ---- groups of names, each of one sort

pub record Group : Type 0 where
  pub sort_is : ℕ
  pub names : List (List ℕ)

pub record IsGroup (g : Group) : Type 0 where
  pub distinct : AreDistinct g.names
  pub sorts : AllByRecursion (λ x. sort x ≡ g.sort_is) g.names

abbrev pub joined : List Group → List (List ℕ)
joined [] = []
joined (g ∷ groups) = g.names ++ joined groups

abbrev pub AreApart : List Group → Type 0
AreApart [] = Unit {0}
AreApart (g ∷ groups) = AllByRecursion (λ h. g.sort_is ≢ h.sort_is) groups × AreApart groups

not_among : (k : ℕ) (groups : List Group) → AllByRecursion (λ h. k ≢ h.sort_is) groups → AllByRecursion IsGroup groups → (x : List ℕ) → sort x ≡ k → Contains (joined groups) x → ⊥
not_among k [] apart are x is at = omega (arith, at.1)
not_among k (g ∷ groups) apart are x is at = elim (Contains-append_cases g.names (joined groups) x at) [
  | inl here ↦ apart.0 (sym is ∙ All-contains (λ y. sort y ≡ g.sort_is) g.names x (All-from_recursion (λ y. sort y ≡ g.sort_is) g.names are.0.sorts) here)
  | inr there ↦ not_among k groups apart.1 are.1 x is there
]

pub nothing_distinct : AreDistinct []
nothing_distinct i j d lt lj = absurd (omega arith)

pub joined_distinct : (groups : List Group) → AreApart groups → AllByRecursion IsGroup groups → AreDistinct (joined groups)
joined_distinct [] apart are = nothing_distinct
joined_distinct (g ∷ groups) apart are =
    append_distinct g.names (joined groups) are.0.distinct (joined_distinct groups apart.1 are.1)
    (λ x here there. not_among g.sort_is groups apart.0 are.1 x (All-contains (λ y. sort y ≡ g.sort_is) g.names x (All-from_recursion (λ y. sort y ≡ g.sort_is) g.names are.0.sorts) here) there)

-- ---- one group

pub one_distinct : (x : List ℕ) → AreDistinct (x ∷ [])
one_distinct x i j d lt lj = absurd (omega arith)

pub range_distinct : (f : ℕ → List ℕ) → ((i j : ℕ) → i < 10 ^ 64 → j < 10 ^ 64 → f i ≡ f j → i ≡ j) → (a n : ℕ) → a + n ≤ 10 ^ 64 → AreDistinct (map f (range_with_len a n))
range_distinct f injective a n small i j d lt lj same =
    let many : length (map f (range_with_len a n)) ≡ n = length-map-range_with_len f a n in
    let left = get_or-map-range_with_len f a n i (a + i) d (omega arith) refl in
    let right = get_or-map-range_with_len f a n j (a + j) d (omega arith) refl in
    let e = injective (a + i) (a + j) (omega arith) (omega arith) (sym left ∙ same ∙ right) in
    omega arith

pub each_of_range : {X : Type 0} (P : X → Type 0) (f : ℕ → X) (a n : ℕ) → ((k : ℕ) → a ≤ k → k < a + n → P (f k)) → AllByRecursion P (map f (range_with_len a n))
each_of_range P f a zero h = tt
each_of_range P f a (suc n) h = (h a (omega arith) (omega arith), each_of_range P f (a + 1) n (λ k low high. h k (omega arith) (omega arith)))

-- names with one number
pub numbered_injective : (a : ℕ) (i j : ℕ) → i < 10 ^ 64 → j < 10 ^ 64 → ◌≡◌ {A = List ℕ} (a ∷ decimal i) (a ∷ decimal j) → i ≡ j
numbered_injective a i j si sj e = decimal_once i j si sj (ap tail e)

-- names with a second number
pub rest_is : (a : ℕ) (xs ys : List ℕ) → ◌≡◌ {A = List ℕ} (a ∷ xs) (a ∷ ys) → xs ≡ ys
rest_is a xs ys e = cc

pub second_injective : (a p : ℕ) → p < 10 ^ 64 → (i j : ℕ) → i < 10 ^ 64 → j < 10 ^ 64 → ◌≡◌ {A = List ℕ} (a ∷ (decimal p ++ (95 ∷ decimal i))) (a ∷ (decimal p ++ (95 ∷ decimal j))) → i ≡ j
second_injective a p small i j si sj e =
    let left = after_numbered a p (95 ∷ decimal i) small refl in
    let right = after_numbered a p (95 ∷ decimal j) small refl in
    decimal_once i j si sj (rest_is 95 (decimal i) (decimal j) (sym left ∙ ap after e ∙ right))
