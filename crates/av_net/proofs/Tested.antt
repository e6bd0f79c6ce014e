-- Facts on lists of names that a test decides, for modules whose names are written out.
use Rattle.std.proofs.Common.{◌≡◌, ℕ, zero, suc, List, [], ◌∷◌, refl, arith, Bool, true, false, ◌&&◌, ◌||◌, not}
use Rattle.std.specs.Prelude.{Contains}
use Rattle.std.specs.Str.{bytes_eq}
use Rattle.std.proofs.lemmas.Slice.Eq.{bytes_eq-Decides}
use Rattle.av_net.specs.Names.{AreDistinct}
use Rattle.av_net.proofs.Distinct.{cons_distinct}

-- whether the name is among these
abbrev pub is_among : List (List ℕ) → List ℕ → Bool
is_among [] name = false
is_among (x ∷ xs) name = bytes_eq x name || is_among xs name

-- whether none stands twice
abbrev pub are_distinct : List (List ℕ) → Bool
are_distinct [] = true
are_distinct (x ∷ xs) = not (is_among xs x) && are_distinct xs

-- by cases on a test that passed
either_of : {P : Type 0} (a b : Bool) → (a || b) ≡ true → (a ≡ true → P) → (b ≡ true → P) → P
either_of true b passed f g = f refl
either_of false b passed f g = g passed

-- a name that the test finds is among the names
pub contains_tested : (names : List (List ℕ)) (name : List ℕ) → is_among names name ≡ true → Contains names name
contains_tested [] name passed = absurd cc
contains_tested (x ∷ xs) name passed =
    either_of (bytes_eq x name) (is_among xs name) passed
    (λ same. (0, omega arith, (bytes_eq-Decides x name).0 same))
    (λ later. next x xs name (contains_tested xs name later))
  where
    next : (x : List ℕ) (xs : List (List ℕ)) (name : List ℕ) → Contains xs name → Contains (x ∷ xs) name
    next x xs name (k, lt, at) = (suc k, omega arith, at)

-- and the other way
test_contains : (names : List (List ℕ)) (name : List ℕ) → Contains names name → is_among names name ≡ true
test_contains [] name (k, lt, at) = absurd (omega arith)
test_contains (x ∷ xs) name (zero, lt, at) = let e : bytes_eq x name ≡ true = (bytes_eq-Decides x name).1 at in rw e
test_contains (x ∷ xs) name (suc k, lt, at) = or_true (bytes_eq x name) (test_contains xs name (k, omega arith, at))
  where
    or_true : (a : Bool) {b : Bool} → b ≡ true → (a || b) ≡ true
    or_true true e = refl
    or_true false e = e

-- names that pass the test are distinct
pub distinct_tested : (names : List (List ℕ)) → are_distinct names ≡ true → AreDistinct names
distinct_tested [] passed = λ i j d lt lj. absurd (omega arith)
distinct_tested (x ∷ xs) passed =
    let here : not (is_among xs x) ≡ true = left (not (is_among xs x)) (are_distinct xs) passed in
    let rest : are_distinct xs ≡ true = right (not (is_among xs x)) (are_distinct xs) passed in
    cons_distinct x xs (λ at. never (is_among xs x) here (test_contains xs x at)) (distinct_tested xs rest)
  where
    left : (a b : Bool) → (a && b) ≡ true → a ≡ true
    left true b e = refl
    left false b e = e

    right : (a b : Bool) → (a && b) ≡ true → b ≡ true
    right true b e = e
    right false b e = absurd cc

    never : (a : Bool) → not a ≡ true → a ≡ true → ⊥
    never true e e' = cc
    never false e e' = cc
