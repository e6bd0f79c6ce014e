-- A list in another order has different elements where the list has.
use Rattle.std.proofs.Common.{◌≡◌, ℕ, ◌<◌, ◌⊎◌, inl, inr, List, length, get_or, refl, sym, ap, ◌∙◌, arith}
use Rattle.std.specs.List.{swap}
use Rattle.std.specs.List.Sorted.{IsPermutation}
use Rattle.std.proofs.lemmas.Bool.{cases_eq}
use Rattle.std.proofs.lemmas.List.Edits.{length-swap, swapped_from_swap}
use Rattle.std.proofs.lemmas.List.Sorted.{IsPermutation-keeps}

-- places with one key are one place
abbrev pub HasEachOnce : {X : Type 0} → (X → ℕ) → List X → Type 0
HasEachOnce {X} key xs = (i j : ℕ) (d : X) → i < length xs → j < length xs → key (get_or xs i d) ≡ key (get_or xs j d) → i ≡ j

-- where the element at a place stood before two were swapped
abbrev IsFrom : ℕ → ℕ → ℕ → ℕ → Type 0
IsFrom a b i from = ((i ≡ a) × (from ≡ b)) ⊎ (((i ≡ b) × (from ≡ a)) ⊎ ((from ≡ i) × (i ≡ a → ⊥) × (i ≡ b → ⊥)))

one_place : (a b i j f g : ℕ) → IsFrom a b i f → IsFrom a b j g → f ≡ g → i ≡ j
one_place a b i j f g (inl (h, k)) (inl (m, n)) e = omega (arith, h, m)
one_place a b i j f g (inl (h, k)) (inr (inl (m, n))) e = omega (arith, h, k, m, n, e)
one_place a b i j f g (inl (h, k)) (inr (inr (m, p, q))) e = absurd (q (omega (arith, k, m, e)))
one_place a b i j f g (inr (inl (h, k))) (inl (m, n)) e = omega (arith, h, k, m, n, e)
one_place a b i j f g (inr (inl (h, k))) (inr (inl (m, n))) e = omega (arith, h, m)
one_place a b i j f g (inr (inl (h, k))) (inr (inr (m, p, q))) e = absurd (p (omega (arith, k, m, e)))
one_place a b i j f g (inr (inr (h, p, q))) (inl (m, n)) e = absurd (q (omega (arith, h, n, e)))
one_place a b i j f g (inr (inr (h, p, q))) (inr (inl (m, n))) e = absurd (p (omega (arith, h, n, e)))
one_place a b i j f g (inr (inr (h, p, q))) (inr (inr (m, r, t))) e = omega (arith, h, m, e)

swapped_once : {X : Type 0} (key : X → ℕ) (xs : List X) (a b : ℕ) → a < length xs → b < length xs → HasEachOnce key xs → HasEachOnce key (swap xs a b)
swapped_once {X} key xs a b la lb h i j d li lj e =
    let n = length-swap xs a b in
    let p = from i (omega (arith, n, li)) in
    let q = from j (omega (arith, n, lj)) in
    one_place a b i j p.0 q.0 p.3 q.3 (h p.0 q.0 d p.1 q.1 (ap key (sym p.2) ∙ e ∙ ap key q.2))
  where
    from : (k : ℕ) → k < length xs → (m : ℕ) × (m < length xs) × (get_or (swap xs a b) k d ≡ get_or xs m d) × IsFrom a b k m
    from k l =
        let s = swapped_from_swap xs (swap xs a b) a b d la lb refl in
        elim (cases_eq k a) [
          | inl f ↦ (b, lb, ap (λ (w : ℕ). get_or (swap xs a b) w d) f ∙ s.0, inl (f, refl))
          | inr f ↦ elim (cases_eq k b) [
            | inl g ↦ (a, la, ap (λ (w : ℕ). get_or (swap xs a b) w d) g ∙ s.1, inr (inl (g, refl)))
            | inr g ↦ (k, l, s.2 k f g, inr (inr (refl, f, g)))
          ]
        ]

pub permuted_once : {X : Type 0} (key : X → ℕ) (xs ys : List X) → IsPermutation xs ys → HasEachOnce key xs → HasEachOnce key ys
permuted_once key xs ys p h = IsPermutation-keeps xs (HasEachOnce key) h (λ l i j a b k. swapped_once key l i j a b k) ys p
