-- How often a name stands in a list: names are distinct where none stands more than once.
use Rattle.std.proofs.Common.{◌≡◌, ℕ, zero, suc, ◌+◌, ◌≤◌, List, [], ◌∷◌, ◌++◌, refl, sym, subst, arith, true, false, if◌then◌else◌, inl, inr}
use Rattle.std.specs.Prelude.{Contains}
use Rattle.std.specs.List.{flat_map}
use Rattle.std.specs.Str.{bytes_eq}
use Rattle.std.proofs.lemmas.Slice.Eq.{bytes_eq-Decides}
use Rattle.av_base.proofs.Among.{first_among, more_among, among_cases, none_among}
use Rattle.av_base.proofs.Truths.{by_test}
use Rattle.av_net.specs.Names.{AreDistinct}
use Rattle.av_net.proofs.Distinct.{apart, front_distinct, rest_distinct, cons_distinct}
use Rattle.av_net.proofs.Settles.{not_equal}

-- 1 where the names are one
pub once : List ℕ → List ℕ → ℕ
once name x = if bytes_eq x name then 1 else 0

pub count : List ℕ → List (List ℕ) → ℕ
count name [] = 0
count name (x ∷ xs) = once name x + count name xs

pub once_same : (name : List ℕ) → once name name ≡ 1
unfolding once
once_same name = let e : bytes_eq name name ≡ true = (bytes_eq-Decides name name).1 refl in rw e refl

pub once_other : (name x : List ℕ) → (x ≡ name → ⊥) → once name x ≡ 0
unfolding once
once_other name x other = let e : bytes_eq x name ≡ false = not_equal x name other in rw e refl

pub count_none : (name : List ℕ) → count name [] ≡ 0
unfolding count
count_none name = refl

pub count_first : (name x : List ℕ) (xs : List (List ℕ)) → count name (x ∷ xs) ≡ once name x + count name xs
unfolding count
count_first name x xs = refl

pub count_one : (name x : List ℕ) → count name (x ∷ []) ≡ once name x
unfolding count
count_one name x = omega arith

pub count_joined : (name : List ℕ) (xs ys : List (List ℕ)) → count name (xs ++ ys) ≡ count name xs + count name ys
unfolding count
count_joined name [] ys = omega arith
count_joined name (x ∷ xs) ys = let more = count_joined name xs ys in omega arith

-- ---- what stands in a list

pub stands : (name : List ℕ) (xs : List (List ℕ)) → Contains xs name → 1 ≤ count name xs
unfolding count
stands name [] at = absurd (none_among name at)
stands name (x ∷ xs) at = elim (among_cases x name xs at) [
  | inl same ↦ let one : once name x ≡ 1 = subst (λ y. once name y ≡ 1) (sym same) (once_same name) in omega arith
  | inr later ↦ let more : 1 ≤ count name xs = stands name xs later in omega arith
]

pub counted : (name : List ℕ) (xs : List (List ℕ)) → 1 ≤ count name xs → Contains xs name
unfolding count once
counted name [] n = absurd (omega arith)
counted name (x ∷ xs) n = by_test (bytes_eq x name)
    (λ same. (0, omega arith, (bytes_eq-Decides x name).0 same))
    (λ other. let none : once name x ≡ 0 = rw other refl in let h : 1 ≤ once name x + count name xs = n in more_among x name xs (counted name xs (omega arith)))

-- ---- distinct names

pub distinct_by : (xs : List (List ℕ)) → ((name : List ℕ) → count name xs ≤ 1) → AreDistinct xs
unfolding count
distinct_by [] h = λ i j d lt lj same. absurd (omega arith)
distinct_by (x ∷ xs) h =
    cons_distinct x xs (λ at. let a : once x x + count x xs ≤ 1 = h x in let b = stands x xs at in let c = once_same x in absurd (omega arith))
    (distinct_by xs (λ name. let a : once name x + count name xs ≤ 1 = h name in omega arith))

none_again : (x : List ℕ) (xs : List (List ℕ)) → AreDistinct (x ∷ xs) → count x xs ≡ 0
none_again x xs d = none (count x xs) refl
  where
    none : (n : ℕ) → count x xs ≡ n → count x xs ≡ 0
    none zero e = e
    none (suc n) e = absurd (apart (x ∷ []) xs x d (first_among x []) (counted x xs (let h : count x xs ≡ suc n = e in omega arith)))

pub at_most_once : (xs : List (List ℕ)) (name : List ℕ) → AreDistinct xs → count name xs ≤ 1
unfolding count once
at_most_once [] name d = omega arith
at_most_once (x ∷ xs) name d =
    let more : count name xs ≤ 1 = at_most_once xs name (rest_distinct (x ∷ []) xs d) in
    by_test (bytes_eq x name)
    (λ same.
    let one : once name x ≡ 1 = rw same refl in
    let none : count name xs ≡ 0 = subst (λ y. count y xs ≡ 0) ((bytes_eq-Decides x name).0 same) (none_again x xs d) in
    omega arith)
    (λ other. let one : once name x ≡ 0 = rw other refl in omega arith)

-- ---- the names that each of some parts has

pub count_each : {X : Type 0} (f g : X → List (List ℕ)) (name : List ℕ) (xs : List X) → ((x : X) → Contains xs x → count name (f x) ≡ count name (g x))
    → count name (flat_map f xs) ≡ count name (flat_map g xs)
count_each f g name [] h = refl
count_each f g name (x ∷ xs) h =
    let here = h x (first_among x xs) in
    let more = count_each f g name xs (λ y at. h y (more_among x y xs at)) in
    let a = count_joined name (f x) (flat_map f xs) in
    let b = count_joined name (g x) (flat_map g xs) in
    omega arith

-- distinct parts
pub part_distinct : {X : Type 0} (f : X → List (List ℕ)) (xs : List X) (x : X) → AreDistinct (flat_map f xs) → Contains xs x → AreDistinct (f x)
part_distinct f [] x d at = absurd (none_among x at)
part_distinct f (y ∷ xs) x d at = elim (among_cases y x xs at) [
  | inl same ↦ subst (λ z. AreDistinct (f z)) same (front_distinct (f y) (flat_map f xs) d)
  | inr later ↦ part_distinct f xs x (rest_distinct (f y) (flat_map f xs) d) later
]
