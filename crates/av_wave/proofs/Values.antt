-- Changes of values, one after another.
use Rattle.std.proofs.Common.{◌≡◌, ◌≢◌, ℕ, zero, suc, ◌+◌, ◌<◌, List, [], ◌∷◌, ◌++◌, length, get_or, true, false, Bool, refl, ◌∙◌, ap, arith}
use Rattle.std.specs.Prelude.{if◌then◌else◌, nat_eq, nat_le, filter, AllPairs}
use Rattle.std.specs.List.{AllByRecursion, range_with_len}
use Rattle.std.proofs.lemmas.Bool.{eq-eqb, ne_eqb}
use Rattle.av_wave.specs.declared.wave.Change.{Change}
use Rattle.av_wave.specs.Waves.{Values, changed, all_changed, changes_in, changes_to, AreNews}

-- ---- one list of changes after another

pub changed_on : (values : Values) (xs ys : List Change) → all_changed values (xs ++ ys) ≡ all_changed (all_changed values xs) ys
changed_on values [] ys = refl
changed_on values (g ∷ xs) ys = changed_on (changed values g) xs ys

pub news_on : (values : Values) (xs ys : List Change) → AreNews values xs → AreNews (all_changed values xs) ys → AreNews values (xs ++ ys)
news_on values [] ys first rest = rest
news_on values (g ∷ xs) ys first rest = (first.0, news_on (changed values g) xs ys first.1 rest)

pub filter_on : {X : Type 0} (test : X → Bool) (xs ys : List X) → filter test (xs ++ ys) ≡ filter test xs ++ filter test ys
filter_on test [] ys = refl
filter_on {X = X} test (x ∷ xs) ys = by_test (test x) (filter_on test xs ys)
  where
    by_test : (b : Bool) → filter test (xs ++ ys) ≡ filter test xs ++ filter test ys
        → (if b then x ∷ filter test (xs ++ ys) else filter test (xs ++ ys)) ≡ (if b then x ∷ filter test xs else filter test xs) ++ filter test ys
    by_test true e = ap (λ more. x ∷ more) e
    by_test false e = e

pub in_on : (c : ℕ) (xs ys : List Change) → changes_in c (xs ++ ys) ≡ changes_in c xs ++ changes_in c ys
in_on c xs ys = filter_on (λ g. nat_eq g.cycle c) xs ys

pub to_on : (c : ℕ) (xs ys : List Change) → changes_to c (xs ++ ys) ≡ changes_to c xs ++ changes_to c ys
to_on c xs ys = filter_on (λ g. nat_le g.cycle c) xs ys

-- ---- by cycles

pub in_here : (c : ℕ) (g : Change) (gs : List Change) → g.cycle ≡ c → changes_in c (g ∷ gs) ≡ g ∷ changes_in c gs
in_here c g gs e = rw (eq-eqb g.cycle c e) refl

pub in_other : (c : ℕ) (g : Change) (gs : List Change) → g.cycle ≢ c → changes_in c (g ∷ gs) ≡ changes_in c gs
in_other c g gs e = rw (ne_eqb g.cycle c e) refl

pub in_none : (c : ℕ) (gs : List Change) → AllByRecursion (λ g. c < g.cycle) gs → changes_in c gs ≡ []
in_none c [] later = refl
in_none c (g ∷ gs) later = in_other c g gs (λ e. let lt : c < g.cycle = later.0 in absurd (omega arith)) ∙ in_none c gs later.1

-- ---- ports in order

pub range_on : (a n : ℕ) → range_with_len a (n + 1) ≡ range_with_len a n ++ (a + n) ∷ []
range_on a zero = ap (λ k. k ∷ []) (let e : a ≡ a + 0 = omega arith in e)
range_on a (suc n) =
    let more : suc n + 1 ≡ suc (n + 1) = omega arith in
    let last : a + 1 + n ≡ a + suc n = omega arith in
    ap (range_with_len a) more ∙ ap (λ rest. a ∷ rest) (range_on (a + 1) n) ∙ ap (λ k. a ∷ (range_with_len (a + 1) n ++ k ∷ [])) last

-- each later element stands behind the first
pub behind_first : {X : Type 0} (R : X → X → Type 0) (x : X) (xs : List X) → AllPairs R (x ∷ xs) → AllByRecursion (R x) xs
behind_first R x [] pairs = tt
behind_first {X = X} R x (y ∷ ys) pairs = (pairs 0 1 x (omega arith) (omega arith), behind_first R x ys (λ i j d lt within. by_place i j d lt within))
  where
    by_place : (i j : ℕ) (d : X) → i < j → j < length (x ∷ ys) → R (get_or (x ∷ ys) i d) (get_or (x ∷ ys) j d)
    by_place zero zero d lt within = absurd (omega arith)
    by_place zero (suc j) d lt within = pairs 0 (suc (suc j)) d (omega arith) (omega arith)
    by_place (suc i) zero d lt within = absurd (omega arith)
    by_place (suc i) (suc j) d lt within = pairs (suc (suc i)) (suc (suc j)) d (omega arith) (omega arith)
