-- A fibre is one list, with one list of words.
use Rattle.std.proofs.Common.{◌≡◌, ℕ, ℤ, ◌<ℤ◌, List, [], ◌∷◌, ◌⊎◌, inl, inr, refl, sym, subst, arith}
use Rattle.std.specs.List.{AllByRecursion}
use Rattle.std.proofs.lemmas.Int.{ints}
use Rattle.av_tree.specs.Folds.{IsAscending, IsAmong, IsListOf, ArePaired, IsFolded}

-- ---- ascending lists are told apart by their members

pub below : (k : ℤ) (js : List ℤ) (x : ℤ) → AllByRecursion (λ j. k <ℤ j) js → IsAmong x js → k <ℤ x
below k [] x b m = absurd m
below k (j ∷ js) x b (inl e) = let P : ℤ → Type 0 = λ y. k <ℤ y in subst P (sym e) b.0
below k (j ∷ js) x b (inr m) = below k js x b.1 m

not_both : (k j : ℤ) → k <ℤ j → j <ℤ k → ⊥
not_both k j p q = omega (arith, ints)

-- the heads are equal
heads : (k j : ℤ) (ks js : List ℤ) → AllByRecursion (λ x. k <ℤ x) ks → AllByRecursion (λ x. j <ℤ x) js → (k ≡ j) ⊎ IsAmong k js → (j ≡ k) ⊎ IsAmong j ks → k ≡ j
heads k j ks js p q (inl e) h = e
heads k j ks js p q (inr m) (inl e) = sym e
heads k j ks js p q (inr m) (inr n) = absurd (not_both k j (below k ks j p n) (below j js k q m))

not_same : (k x : ℤ) → k <ℤ x → x ≡ k → ⊥
not_same k x p e = omega (arith, ints)

-- what is above the head is no head
in_tail : (k x : ℤ) (js : List ℤ) → k <ℤ x → (x ≡ k) ⊎ IsAmong x js → IsAmong x js
in_tail k x js p (inl e) = absurd (not_same k x p e)
in_tail k x js p (inr m) = m

-- a member of the one tail is one of the other
forth : (k j : ℤ) (ks js : List ℤ) → k ≡ j → AllByRecursion (λ x. k <ℤ x) ks → ((x : ℤ) → IsAmong x ks → (x ≡ j) ⊎ IsAmong x js)
    → (x : ℤ) → IsAmong x ks → IsAmong x js
forth k j ks js e b f x m = in_tail j x js (let P : ℤ → Type 0 = λ y. y <ℤ x in subst P e (below k ks x b m)) (f x m)

pub same_lists : (ks js : List ℤ) → IsAscending ks → IsAscending js → ((x : ℤ) → IsAmong x ks → IsAmong x js) → ((x : ℤ) → IsAmong x js → IsAmong x ks)
    → ks ≡ js
same_lists [] [] p q f g = refl
same_lists [] (j ∷ js) p q f g = absurd (g j (inl refl))
same_lists (k ∷ ks) [] p q f g = absurd (f k (inl refl))
same_lists (k ∷ ks) (j ∷ js) p q f g =
    let e : k ≡ j = heads k j ks js p.0 q.0 (f k (inl refl)) (g j (inl refl)) in
    let t : ks ≡ js = same_lists ks js p.1 q.1 (forth k j ks js e p.0 (λ x m. f x (inr m))) (forth j k js ks (sym e) q.0 (λ x m. g x (inr m))) in cc

-- one list has exactly the numbers of which P holds, in ascending order
pub one_list : (P : ℤ → Type 0) (ks js : List ℤ) → IsListOf P ks → IsListOf P js → ks ≡ js
one_list P ks js p q = same_lists ks js p.ascending q.ascending (λ x m. q.all x (p.each x m)) (λ x m. p.all x (q.each x m))

-- ---- words over a fibre

-- R holds of one number at most
abbrev pub IsOnce : (ℕ → Type 0) → Type 0
IsOnce R = (a b : ℕ) → R a → R b → a ≡ b

pub same_words : (R : ℤ → ℕ → Type 0) → ((k : ℤ) → IsOnce (R k)) → (ks : List ℤ) (us vs : List ℕ) → ArePaired R ks us → ArePaired R ks vs → us ≡ vs
same_words R one [] [] [] p q = refl
same_words R one [] [] (v ∷ vs) p q = absurd q
same_words R one [] (u ∷ us) vs p q = absurd p
same_words R one (k ∷ ks) [] vs p q = absurd p
same_words R one (k ∷ ks) (u ∷ us) [] p q = absurd q
same_words R one (k ∷ ks) (u ∷ us) (v ∷ vs) p q = let e = one k u v p.0 q.0 in let h = same_words R one ks us vs p.1 q.1 in cc

pub folded_once : (counts : ℤ → ℕ) (R : ℤ → ℕ → Type 0) (f : List ℕ → ℕ) → ((k : ℤ) → IsOnce (R k)) → IsOnce (IsFolded counts R f)
folded_once counts R f one a b p q =
    let ks = one_list (λ k. counts k ≡ 1) p.fibre q.fibre p.is_fibre q.is_fibre in
    let paired : ArePaired R p.fibre q.words = subst (λ (js : List ℤ). ArePaired R js q.words) (sym ks) q.paired in
    let words = same_words R one p.fibre p.words q.words p.paired paired in cc
