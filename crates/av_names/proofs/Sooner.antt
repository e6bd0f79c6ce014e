-- The first of two things, and of many.
use Rattle.std.proofs.Common.{◌≡◌, ◌⊎◌, ℕ, ◌+◌, ◌<◌, List, [], ◌∷◌, ◌++◌, map, length, get_or, take, take-suc, add-one, Option, Some, None, Bool, true, false, ◌&&◌, ◌||◌, refl, ap, sym, ◌∙◌, inl, inr, arith}
use Rattle.std.specs.Prelude.{nat_lt, nat_eq, filter_map}
use Rattle.std.specs.List.{cons_option}
use Rattle.std.proofs.lemmas.Bool.{ltb-true, lt-ltb}
use Rattle.std.proofs.lemmas.Bool.Decides.{eqb_tells}
use Rattle.av_base.specs.declared.place.Place.{Place}
use Rattle.av_names.specs.Found.{is_before, sooner, first_of}
use Rattle.av_names.specs.inner.AtOption.{at_option}
use Rattle.av_base.proofs.Truths.{either}

-- ---- places

abbrev Before : ℕ → ℕ → ℕ → ℕ → Type 0
Before a b c d = (a < b) ⊎ ((a ≡ b) × (c < d))

abbrev before : ℕ → ℕ → ℕ → ℕ → Bool
before a b c d = nat_lt a b || (nat_eq a b && nat_lt c d)

differ : true ≡ false → ⊥
differ e = cc

and_cases : (x y : Bool) → (x && y) ≡ true → (x ≡ true) × (y ≡ true)
and_cases true y e = (refl, e)
and_cases false y e = absurd (differ (sym e))

is_less : (a b c d : ℕ) → before a b c d ≡ true → Before a b c d
is_less a b c d e = elim (either (nat_lt a b) (nat_eq a b && nat_lt c d) e) [
  | inl f ↦ inl (ltb-true a b f)
  | inr f ↦
      let both = and_cases (nat_eq a b) (nat_lt c d) f in
      elim (eqb_tells a b) [ inl (g, same) ↦ inr (same, ltb-true c d both.1) | inr (g, other) ↦ absurd (differ (sym both.0 ∙ g)) ]
]

less_is : (a b c d : ℕ) → Before a b c d → before a b c d ≡ true
less_is a b c d (inl lt) = rw (lt-ltb a b lt) refl
less_is a b c d (inr (same, lt)) =
    elim (eqb_tells a b) [ inl (g, _) ↦ rw (g, lt-ltb c d lt) (or_true (nat_lt a b)) | inr (g, other) ↦ absurd (other same) ]
  where
    or_true : (x : Bool) → (x || true) ≡ true
    or_true true = refl
    or_true false = refl

-- one that is before another is before all that is not before that
pub before_any : (x y z : Place) → is_before z y ≡ true → is_before z x ≡ false → is_before y x ≡ true → ⊥
before_any x y z zy zx yx =
    differ (sym (less_is z.line x.line z.column x.column (join (is_less z.line y.line z.column y.column zy) (is_less y.line x.line y.column x.column yx))) ∙ zx)
  where
    join : Before z.line y.line z.column y.column → Before y.line x.line y.column x.column → Before z.line x.line z.column x.column
    join (inl a) (inl b) = inl (omega arith)
    join (inl a) (inr (b, c)) = inl (omega arith)
    join (inr (a, b)) (inl c) = inl (omega arith)
    join (inr (a, b)) (inr (c, d)) = inr (omega arith, omega arith)

-- one of the two is not before the other
either_way : (a b c d : ℕ) → before a b c d ≡ false → (Before b a d c) ⊎ ((a ≡ b) × (c ≡ d))
either_way a b c d e = elim (compare a b) [
  | inl lt ↦ absurd (differ (sym (less_is a b c d (inl lt)) ∙ e))
  | inr (inl same) ↦ elim (compare c d) [
    | inl lt ↦ absurd (differ (sym (less_is a b c d (inr (same, lt))) ∙ e))
    | inr (inl same2) ↦ inr (same, same2)
    | inr (inr gt) ↦ inl (inr (sym same, gt))
  ]
  | inr (inr gt) ↦ inl (inl gt)
]
  where
    compare : (m n : ℕ) → (m < n) ⊎ ((m ≡ n) ⊎ (n < m))
    compare m n = grind arith

-- not before, twice
pub after_all : (x y z : Place) → is_before y x ≡ false → is_before z y ≡ false → is_before z x ≡ true → ⊥
after_all x y z yx zy zx =
    join (either_way y.line x.line y.column x.column yx) (either_way z.line y.line z.column y.column zy) (is_less z.line x.line z.column x.column zx)
  where
    join : (Before x.line y.line x.column y.column) ⊎ ((y.line ≡ x.line) × (y.column ≡ x.column)) → (Before y.line z.line y.column z.column) ⊎ ((z.line ≡ y.line) × (z.column ≡ y.column))
        → Before z.line x.line z.column x.column → ⊥
    join a b c = grind arith

-- ---- the first of two

choose_again : {A : Type 0} (at : A → Place) (x y z : A) (b1 b2 b3 : Bool) → is_before (at y) (at x) ≡ b1 → is_before (at z) (at y) ≡ b2 → is_before (at z) (at x) ≡ b3
    → sooner at (sooner at (Some x) (Some y)) (Some z) ≡ sooner at (Some x) (sooner at (Some y) (Some z))
choose_again at x y z true true true e1 e2 e3 = rw (e1, e2) (rw e3 refl)
choose_again at x y z true true false e1 e2 e3 = absurd (before_any (at x) (at y) (at z) e2 e3 e1)
choose_again at x y z true false b3 e1 e2 e3 = rw (e1, e2) (rw e1 refl)
choose_again at x y z false true b3 e1 e2 e3 = rw (e1, e2) refl
choose_again at x y z false false true e1 e2 e3 = absurd (after_all (at x) (at y) (at z) e1 e2 e3)
choose_again at x y z false false false e1 e2 e3 = rw (e1, e2) (rw (e3, e1) refl)

pub sooner_again : {A : Type 0} (at : A → Place) (x y z : Option A) → sooner at (sooner at x y) z ≡ sooner at x (sooner at y z)
sooner_again at None y z = refl
sooner_again at (Some x) None z = refl
sooner_again at (Some x) (Some y) None = sooner_none at (sooner at (Some x) (Some y))
  where
    sooner_none : {A : Type 0} (at : A → Place) (w : Option A) → sooner at w None ≡ w
    sooner_none at None = refl
    sooner_none at (Some w) = refl
sooner_again at (Some x) (Some y) (Some z) = choose_again at x y z _ _ _ refl refl refl

-- ---- the first of many

pub first_append : {A B : Type 0} (at : A → Place) (rule : B → Option A) (xs ys : List B) → first_of at rule (xs ++ ys) ≡ sooner at (first_of at rule xs) (first_of at rule ys)
first_append at rule [] ys = refl
first_append at rule (x ∷ xs) ys =
    ap (λ r. sooner at (rule x) r) (first_append at rule xs ys) ∙ sym (sooner_again at (rule x) (first_of at rule xs) (first_of at rule ys))

pub first_map : {A B C : Type 0} (at : A → Place) (rule : B → Option A) (f : C → B) (xs : List C) → first_of at rule (map f xs) ≡ first_of at (λ x. rule (f x)) xs
first_map at rule f [] = refl
first_map at rule f (x ∷ xs) = ap (λ r. sooner at (rule (f x)) r) (first_map at rule f xs)

pub first_filter_map : {A B C : Type 0} (at : A → Place) (rule : B → Option A) (f : C → Option B) (xs : List C)
    → first_of at rule (filter_map f xs) ≡ first_of at (λ x. at_option rule (f x)) xs
first_filter_map at rule f [] = refl
first_filter_map at rule f (x ∷ xs) = filtered at rule (f x) (filter_map f xs) (first_of at (λ w. at_option rule (f w)) xs) (first_filter_map at rule f xs)
  where
    filtered : {A B : Type 0} (at : A → Place) (rule : B → Option A) (y : Option B) (ys : List B) (rest : Option A) → first_of at rule ys ≡ rest
        → first_of at rule (cons_option y ys) ≡ sooner at (at_option rule y) rest
    filtered at rule None ys rest e = e
    filtered at rule (Some y) ys rest e = ap (λ r. sooner at (rule y) r) e

pub sooner_nothing : {A : Type 0} (at : A → Place) (w : Option A) → sooner at w None ≡ w
sooner_nothing at None = refl
sooner_nothing at (Some w) = refl

-- one more object
pub first_more : {A B : Type 0} (at : A → Place) (rule : B → Option A) (xs : List B) (i : ℕ) (x : B) (best found next : Option A) → i < length xs → x ≡ get_or xs i x
    → best ≡ first_of at rule (take i xs) → found ≡ rule x → next ≡ sooner at best found → next ≡ first_of at rule (take (i + 1) xs)
first_more at rule xs i x best found next lt here before is now =
    let split : take (i + 1) xs ≡ take i xs ++ x ∷ [] = rw (add-one, take-suc xs i x lt, sym here) refl in
    now ∙ ap (sooner at best) is ∙ ap (λ b. sooner at b (rule x)) before ∙ ap (λ r. sooner at (first_of at rule (take i xs)) r) (sym (sooner_nothing at (rule x)))
    ∙ sym (first_append at rule (take i xs) (x ∷ [])) ∙ ap (first_of at rule) (sym split)
