-- Values in ascending order.
use Rattle.std.proofs.Common.{◌≡◌, ℕ, zero, suc, ◌<◌, ◌≤◌, Bool, true, false, ◌&&◌, List, [], ◌∷◌, refl, sym, ap, ◌∙◌, subst, arith, inl, inr, true≢false}
use Rattle.std.specs.Prelude.{◌⊎◌, ◌↔◌, ◌||◌, if◌then◌else◌, nat_eq, nat_lt, All, AllPairs, Contains}
use Rattle.std.proofs.lemmas.Bool.{eqb-true, eq-eqb, ltb-true, ltb-false, cases_lt}
use Rattle.std.proofs.lemmas.List.Elements.{All-nil, All-cons, All-head, All-tail, All-weaker, All-contains, All-contains_itself}
use Rattle.std.proofs.lemmas.List.Kept.{AllPairs-cons}
use Rattle.av_data.specs.declared.stimulus.Given.{Given}
use Rattle.av_data.specs.Stimuli.{IsSame, IsBefore}
use Rattle.av_data.specs.Kept.{is_same, is_before, is_given, placed}
use Rattle.av_base.proofs.Truths.{and_true, both, neither}

-- ---- elements and pairs

pub contains_here : (x : Given) (xs : List Given) → Contains (x ∷ xs) x
contains_here x xs = (0, omega arith, refl)

pub contains_later : (y : Given) (xs : List Given) (x : Given) → Contains xs x → Contains (y ∷ xs) x
contains_later y xs x (i, lt, at) = (suc i, omega arith, at)

pub contains_cases : (y : Given) (xs : List Given) (x : Given) → Contains (y ∷ xs) x → (y ≡ x) ⊎ Contains xs x
contains_cases y xs x (zero, lt, at) = inl at
contains_cases y xs x (suc i, lt, at) = inr (i, omega arith, at)

contains_none : (x : Given) → Contains [] x → ⊥
contains_none x (i, lt, at) = omega arith

pub pairs_head : (x : Given) (xs : List Given) → AllPairs IsBefore (x ∷ xs) → All (IsBefore x) xs
pairs_head x xs a = λ k d lt. a 0 (suc k) d (omega arith) (omega arith)

pub pairs_tail : (x : Given) (xs : List Given) → AllPairs IsBefore (x ∷ xs) → AllPairs IsBefore xs
pairs_tail x xs a = λ i j d lt within. a (suc i) (suc j) d (omega arith) (omega arith)

-- what holds of each element holds of all
pub all_of : (P : Given → Type 0) (xs : List Given) → ((x : Given) → Contains xs x → P x) → All P xs
all_of P xs h = All-weaker (Contains xs) P h xs (All-contains_itself xs)

-- ---- the order

same_from : (g h : Given) → is_same g h ≡ true → IsSame g h
same_from g h e = let z = both (nat_eq g.cycle h.cycle) (nat_eq g.port h.port) e in (eqb-true g.cycle h.cycle z.0, eqb-true g.port h.port z.1)

same_to : (g h : Given) → IsSame g h → is_same g h ≡ true
same_to g h e = and_true (nat_eq g.cycle h.cycle) (nat_eq g.port h.port) (eq-eqb g.cycle h.cycle e.0) (eq-eqb g.port h.port e.1)

before_from : (g h : Given) → is_before g h ≡ true → IsBefore g h
before_from g h e = by (nat_lt g.cycle h.cycle) refl e
  where
    by : (t : Bool) → nat_lt g.cycle h.cycle ≡ t → (t || (nat_eq g.cycle h.cycle && nat_lt g.port h.port)) ≡ true → IsBefore g h
    by true f e = inl (ltb-true g.cycle h.cycle f)
    by false f e = let z = both (nat_eq g.cycle h.cycle) (nat_lt g.port h.port) e in inr (eqb-true g.cycle h.cycle z.0, ltb-true g.port h.port z.1)

less : {m n : ℕ} → n ≤ m → (m ≡ n → ⊥) → n < m
less {m} {n} le differ = elim (cases_lt n m) [
  | inl lt ↦ lt
  | inr ge ↦ absurd (differ (omega (arith, le, ge)))
]

-- one that is neither before another nor the same is behind it
before_other : (g h : Given) → is_before g h ≡ false → is_same g h ≡ false → IsBefore h g
before_other g h e s = by (nat_lt g.cycle h.cycle) (nat_eq g.cycle h.cycle) (nat_lt g.port h.port) (nat_eq g.port h.port) refl refl refl refl e s
  where
    by : (t u v w : Bool) → nat_lt g.cycle h.cycle ≡ t → nat_eq g.cycle h.cycle ≡ u → nat_lt g.port h.port ≡ v → nat_eq g.port h.port ≡ w
        → (t || (u && v)) ≡ false → (u && w) ≡ false → IsBefore h g
    by true u v w a b c d e s = absurd (true≢false e)
    by false true true w a b c d e s = absurd (true≢false e)
    by false true false true a b c d e s = absurd (true≢false s)
    by false true false false a b c d e s = inr (sym (eqb-true g.cycle h.cycle b), less (ltb-false g.port h.port c) (λ k. true≢false (sym (eq-eqb g.port h.port k) ∙ d)))
    by false false v w a b c d e s = inl (less (ltb-false g.cycle h.cycle a) (λ k. true≢false (sym (eq-eqb g.cycle h.cycle k) ∙ b)))

before_chain : (g h k : Given) → IsBefore g h → IsBefore h k → IsBefore g k
before_chain g h k (inl a) (inl b) = inl (omega (arith, a, b))
before_chain g h k (inl a) (inr b) = inl (omega (arith, a, b.0))
before_chain g h k (inr a) (inl b) = inl (omega (arith, a.0, b))
before_chain g h k (inr a) (inr b) = inr (a.0 ∙ b.0, omega (arith, a.1, b.1))

before_differ : (g h : Given) → IsBefore g h → IsBefore h g → ⊥
before_differ g h (inl a) (inl b) = omega (arith, a, b)
before_differ g h (inl a) (inr b) = omega (arith, a, b.0)
before_differ g h (inr a) (inl b) = omega (arith, a.0, b)
before_differ g h (inr a) (inr b) = omega (arith, a.1, b.1)

-- ---- a value put in its place

placed_all : (P : Given → Type 0) (g : Given) (values : List Given) → P g → All P values → All P (placed g values)
placed_all P g [] p all = All-cons P g [] p all
placed_all P g (h ∷ values) p all = by (is_before g h) (placed_all P g values p (All-tail P h values all))
  where
    by : (t : Bool) → All P (placed g values) → All P (if t then g ∷ h ∷ values else h ∷ placed g values)
    by true ih = All-cons P g (h ∷ values) p all
    by false ih = All-cons P h (placed g values) (All-head P h values all) ih

placed_ascends : (g : Given) (values : List Given) → AllPairs IsBefore values → is_given values g ≡ false → AllPairs IsBefore (placed g values)
placed_ascends g [] ascending none = AllPairs-cons IsBefore g [] (All-nil (IsBefore g)) ascending
placed_ascends g (h ∷ values) ascending none =
    let apart = neither (is_same g h) (is_given values g) none in
    by (is_before g h) refl apart.0 (placed_ascends g values (pairs_tail h values ascending) apart.1)
  where
    by : (t : Bool) → is_before g h ≡ t → is_same g h ≡ false → AllPairs IsBefore (placed g values) → AllPairs IsBefore (if t then g ∷ h ∷ values else h ∷ placed g values)
    by true e apart ih =
        let first : IsBefore g h = before_from g h e in
        AllPairs-cons IsBefore g (h ∷ values) (All-cons (IsBefore g) h values first (All-weaker (IsBefore h) (IsBefore g) (λ k later. before_chain g h k first later) values (pairs_head h values ascending))) ascending
    by false e apart ih = AllPairs-cons IsBefore h (placed g values) (placed_all (IsBefore h) g values (before_other g h e apart) (pairs_head h values ascending)) ih

pub placed_has : (g : Given) (values : List Given) → Contains (placed g values) g
placed_has g [] = contains_here g []
placed_has g (h ∷ values) = by (is_before g h) (placed_has g values)
  where
    by : (t : Bool) → Contains (placed g values) g → Contains (if t then g ∷ h ∷ values else h ∷ placed g values) g
    by true ih = contains_here g (h ∷ values)
    by false ih = contains_later h (placed g values) g ih

pub placed_keeps : (g : Given) (values : List Given) (x : Given) → Contains values x → Contains (placed g values) x
placed_keeps g [] x c = absurd (contains_none x c)
placed_keeps g (h ∷ values) x c = by (is_before g h) (contains_cases h values x c) (placed_keeps g values x)
  where
    by : (t : Bool) → (h ≡ x) ⊎ Contains values x → (Contains values x → Contains (placed g values) x) → Contains (if t then g ∷ h ∷ values else h ∷ placed g values) x
    by true k ih = contains_later g (h ∷ values) x c
    by false (inl e) ih = subst (Contains (h ∷ placed g values)) e (contains_here h (placed g values))
    by false (inr k) ih = contains_later h (placed g values) x (ih k)

pub placed_only : (g : Given) (values : List Given) (x : Given) → Contains (placed g values) x → (g ≡ x) ⊎ Contains values x
placed_only g [] x c = contains_cases g [] x c
placed_only g (h ∷ values) x c = by (is_before g h) c (placed_only g values x)
  where
    by : (t : Bool) → Contains (if t then g ∷ h ∷ values else h ∷ placed g values) x → (Contains (placed g values) x → (g ≡ x) ⊎ Contains values x) → (g ≡ x) ⊎ Contains (h ∷ values) x
    by true c ih = contains_cases g (h ∷ values) x c
    by false c ih = first (contains_cases h (placed g values) x c)
      where
        later : (g ≡ x) ⊎ Contains values x → (g ≡ x) ⊎ Contains (h ∷ values) x
        later (inl e) = inl e
        later (inr k) = inr (contains_later h values x k)

        first : (h ≡ x) ⊎ Contains (placed g values) x → (g ≡ x) ⊎ Contains (h ∷ values) x
        first (inl e) = inr (subst (Contains (h ∷ values)) e (contains_here h values))
        first (inr k) = later (ih k)

-- ---- the same values, in order

pub record Sorts (values given : List Given) : Type 0 where
  pub ascending : AllPairs IsBefore values
  pub same : (g : Given) → Contains given g ↔ Contains values g

pub sorts_none : Sorts [] []
sorts_none = record { ascending = λ i j d lt within. absurd (omega arith); same = λ g. (λ c. c, λ c. c) }

-- one that was given before
pub given_before : (values given : List Given) (g : Given) → Sorts values given → is_given values g ≡ true → (h : Given) × Contains given h × IsSame g h
given_before values given g sorts e = let found = any_there values e in (found.0, (sorts.same found.0).1 found.1, found.2)
  where
    any_there : (hs : List Given) → is_given hs g ≡ true → (h : Given) × Contains hs h × IsSame g h
    any_there [] e = absurd (true≢false (sym e))
    any_there (h ∷ hs) e = by (is_same g h) refl e (any_there hs)
      where
        by : (t : Bool) → is_same g h ≡ t → (t || is_given hs g) ≡ true → (is_given hs g ≡ true → (k : Given) × Contains hs k × IsSame g k) → (k : Given) × Contains (h ∷ hs) k × IsSame g k
        by true s e ih = (h, contains_here h hs, same_from g h s)
        by false s e ih = let found = ih e in (found.0, contains_later h hs found.0 found.1, found.2)

-- or none
pub given_none : (values given : List Given) (g : Given) → Sorts values given → is_given values g ≡ false → All (λ h. IsSame g h → ⊥) given
given_none values given g sorts e = all_of (λ h. IsSame g h → ⊥) given (λ h c. none values e h ((sorts.same h).0 c))
  where
    none : (hs : List Given) → is_given hs g ≡ false → (h : Given) → Contains hs h → IsSame g h → ⊥
    none [] e h c same = contains_none h c
    none (k ∷ hs) e h c same = let z = neither (is_same g k) (is_given hs g) e in by (contains_cases k hs h c) (none hs z.1 h)
      where
        by : (k ≡ h) ⊎ Contains hs h → (Contains hs h → IsSame g h → ⊥) → ⊥
        by (inl is) ih = true≢false (sym (same_to g k (subst (IsSame g) (sym is) same)) ∙ (neither (is_same g k) (is_given hs g) e).0)
        by (inr later) ih = ih later same

pub none_given : (values given : List Given) (g : Given) → Sorts values given → All (λ h. IsSame g h → ⊥) given → is_given values g ≡ false
none_given values given g sorts apart = by (is_given values g) refl
  where
    by : (t : Bool) → is_given values g ≡ t → t ≡ false
    by false e = refl
    by true e = let found = given_before values given g sorts e in absurd (All-contains (λ h. IsSame g h → ⊥) given found.0 apart found.1 found.2)

pub again_given : (values given : List Given) (g h : Given) → Sorts values given → Contains given h → IsSame g h → is_given values g ≡ true
again_given values given g h sorts c same = by (is_given values g) refl
  where
    by : (t : Bool) → is_given values g ≡ t → t ≡ true
    by true e = refl
    by false e = absurd (All-contains (λ k. IsSame g k → ⊥) given h (given_none values given g sorts e) c same)

pub sorts_more : (values given : List Given) (g : Given) → Sorts values given → is_given values g ≡ false → Sorts (placed g values) (g ∷ given)
sorts_more values given g sorts none = record {
  ascending = placed_ascends g values sorts.ascending none;
  same = λ x. (λ c. into x (contains_cases g given x c), λ c. out x (placed_only g values x c));
}
  where
    into : (x : Given) → (g ≡ x) ⊎ Contains given x → Contains (placed g values) x
    into x (inl e) = subst (Contains (placed g values)) e (placed_has g values)
    into x (inr c) = placed_keeps g values x ((sorts.same x).0 c)

    out : (x : Given) → (g ≡ x) ⊎ Contains values x → Contains (g ∷ given) x
    out x (inl e) = subst (Contains (g ∷ given)) e (contains_here g given)
    out x (inr c) = contains_later g given x ((sorts.same x).1 c)

-- ---- there is one such list

not_itself : (x : Given) → IsBefore x x → ⊥
not_itself x b = before_differ x x b b

pub one_order : (xs ys : List Given) → AllPairs IsBefore xs → AllPairs IsBefore ys → ((g : Given) → Contains xs g ↔ Contains ys g) → xs ≡ ys
one_order [] [] a b same = refl
one_order [] (y ∷ ys) a b same = absurd (contains_none y ((same y).1 (contains_here y ys)))
one_order (x ∷ xs) [] a b same = absurd (contains_none x ((same x).0 (contains_here x xs)))
one_order (x ∷ xs) (y ∷ ys) a b same =
    let first = heads (contains_cases y ys x ((same x).0 (contains_here x xs))) (contains_cases x xs y ((same y).1 (contains_here y ys))) in
    let later = one_order xs ys (pairs_tail x xs a) (pairs_tail y ys b) (λ g. (λ c. right first g c, λ c. left first g c)) in
    ap (λ z. z ∷ xs) first ∙ ap (λ (zs : List Given). y ∷ zs) later
  where
    heads : (y ≡ x) ⊎ Contains ys x → (x ≡ y) ⊎ Contains xs y → x ≡ y
    heads (inl e) k = sym e
    heads (inr c) (inl e) = e
    heads (inr c) (inr d) = absurd (before_differ x y (All-contains (IsBefore x) xs y (pairs_head x xs a) d) (All-contains (IsBefore y) ys x (pairs_head y ys b) c))

    right : x ≡ y → (g : Given) → Contains xs g → Contains ys g
    right first g c = by (contains_cases y ys g ((same g).0 (contains_later x xs g c)))
      where
        by : (y ≡ g) ⊎ Contains ys g → Contains ys g
        by (inl e) = absurd (not_itself x (subst (IsBefore x) (sym (first ∙ e)) (All-contains (IsBefore x) xs g (pairs_head x xs a) c)))
        by (inr d) = d

    left : x ≡ y → (g : Given) → Contains ys g → Contains xs g
    left first g c = by (contains_cases x xs g ((same g).1 (contains_later y ys g c)))
      where
        by : (x ≡ g) ⊎ Contains xs g → Contains xs g
        by (inl e) = absurd (not_itself y (subst (IsBefore y) (sym (sym first ∙ e)) (All-contains (IsBefore y) ys g (pairs_head y ys b) c)))
        by (inr d) = d
