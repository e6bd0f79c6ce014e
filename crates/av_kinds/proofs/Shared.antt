-- Ascending numbers are told by which they are: so cells on which the same pieces stand have the same list of pieces.
use Rattle.std.proofs.Common.{◌≡◌, ℕ, ◌<◌, ◌⊎◌, inl, inr, List, [], ◌∷◌, refl, sym, arith, subst}
use Rattle.std.specs.List.{AllByRecursion}

-- the number is one of these
abbrev pub IsOne : ℕ → List ℕ → Type 0
IsOne n [] = ⊥
IsOne n (m ∷ ms) = (n ≡ m) ⊎ IsOne n ms

abbrev pub AreAscending : List ℕ → Type 0
AreAscending [] = Unit {0}
AreAscending (m ∷ ms) = AllByRecursion (λ k. m < k) ms × AreAscending ms

above : (m n : ℕ) (ms : List ℕ) → AllByRecursion (λ k. m < k) ms → IsOne n ms → m < n
above m n [] h is = absurd is
above m n (k ∷ ms) h (inl e) = subst (λ x. m < x) (sym e) h.0
above m n (k ∷ ms) h (inr is) = above m n ms h.1 is

heads : (m n : ℕ) (ms ns : List ℕ) → AreAscending (m ∷ ms) → AreAscending (n ∷ ns) → IsOne m (n ∷ ns) → IsOne n (m ∷ ms) → m ≡ n
heads m n ms ns a b (inl e) k = e
heads m n ms ns a b (inr h) (inl e) = sym e
heads m n ms ns a b (inr h) (inr k) = absurd (omega (arith, above n m ns b.0 h, above m n ms a.0 k))

-- of those behind the first, none is the first
behind : (m n : ℕ) (ms : List ℕ) → AllByRecursion (λ k. m < k) ms → m < n → (n ≡ m) ⊎ IsOne n ms → IsOne n ms
behind m n ms h lt (inl e) = absurd (omega (arith, lt, e))
behind m n ms h lt (inr is) = is

pub ascending_same : (ms ns : List ℕ) → AreAscending ms → AreAscending ns → ((n : ℕ) → IsOne n ms → IsOne n ns) → ((n : ℕ) → IsOne n ns → IsOne n ms) → ms ≡ ns
ascending_same [] [] a b f g = refl
ascending_same [] (n ∷ ns) a b f g = absurd (g n (inl refl))
ascending_same (m ∷ ms) [] a b f g = absurd (f m (inl refl))
ascending_same (m ∷ ms) (n ∷ ns) a b f g =
    let e : m ≡ n = heads m n ms ns a b (f m (inl refl)) (g n (inl refl)) in
    let low : AllByRecursion (λ k. n < k) ms = subst (λ x. AllByRecursion (λ k. x < k) ms) e a.0 in
    let rest : ms ≡ ns =
    ascending_same ms ns a.1 b.1
    (λ k is. behind n k ns b.0 (above n k ms low is) (f k (inr is)))
    (λ k is. behind m k ms a.0 (subst (λ x. x < k) (sym e) (above n k ns b.0 is)) (g k (inr is))) in
    rw (e, rest) refl
